use Rattle.std.proofs.Common.{◌≡◌, Some, Option, sym, ap, ◌∙◌}
use Rattle.std.specs.List.{slice_get}
use Rattle.policy.specs.Refusals.{answered}
use Rattle.policy.specs.declared.rule.Rule.{Rule}
use Rattle.roster.specs.Holdings.{Held}
use Rattle.model.specs.Acts.{act_refusal, held_by, refusal_by}
use Rattle.model.proofs.Refused.{stays}
use Rattle.register.specs.Memory.{state_of}
use Rattle.register.proofs.in_force.Register.attempt.Goals as goal

pub returns-in_err-test-clause-after : goal.returns-in_err-test-clause-after
returns-in_err-test-clause-after g c =
    let st = state_of c.args.self.now in
    let act = c.args.act in
    let found : slice_get st.policy.rules act.rule ≡ Some c.in_ok-rule.rule = sym c.rule.ensures.answer ∙ c.in_ok-rule.ensures.ok_part in
    ap (λ (held : Held). record { policy = st.policy; clock = st.clock; held = held })
    (stays (act_refusal st act) (tt {0}) _ (held_by (slice_get st.policy.rules act.rule) act.target act.part st.held) st.held
    (c.in_err-test.ensures ∙ ap (λ (o : Option Rule). answered (refusal_by o st act) (tt {0})) (sym found)))
