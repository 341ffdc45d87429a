-- What an act that passes its tests answers and makes. Assumes nothing.
use Rattle.std.proofs.Common.{◌≡◌, Some, None, Option, ap, ◌∙◌, arith}
use Rattle.std.proofs.lemmas.Grind.{common_steps}
use Rattle.policy.specs.Kinds.{adds}
use Rattle.policy.specs.Refusals.{first_failing}
use Rattle.policy.specs.declared.rule.Rule.{Rule}
use Rattle.roster.specs.Holdings.{altered}
use Rattle.model.specs.Acts.{act_tests, refusal_by, held_by}
use Rattle.model.specs.Drafts.{unless_refused}
use Rattle.model.specs.States.{State}
use Rattle.model.specs.declared.call.OfficerAct.{OfficerAct}

module _ (st : State) (rule : Rule) (act : OfficerAct) where
  -- no test fails, and that is the rule
  pub goes : (found : Option Rule) → Some rule ≡ found → None ≡ first_failing (act_tests st rule act)
      → None ≡ refusal_by found st act
  goes found e none = none ∙ ap (λ (f : Option Rule). refusal_by f st act) e

  pub goes_held : (found : Option Rule) → Some rule ≡ found → None ≡ refusal_by found st act
      → altered (adds rule.kind) act.target rule.role act.part st.held
      ≡ unless_refused (refusal_by found st act) (held_by found act.target act.part st.held) st.held
  goes_held found e none = grind (arith, common_steps)
