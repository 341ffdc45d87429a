-- What an accepted act changed, and what it left. Assumes nothing.
use Rattle.std.proofs.Common.{◌≡◌, IfOk, Some, None, Option, Result, sym, refl, ap, ◌∙◌, subst, arith}
use Rattle.std.proofs.lemmas.Grind.{common_steps}
use Rattle.std.specs.List.{slice_get}
use Rattle.policy.specs.Kinds.{adds}
use Rattle.policy.specs.Refusals.{answered}
use Rattle.policy.specs.declared.refusal.Refusal.{Refusal}
use Rattle.policy.specs.declared.rule.Rule.{Rule}
use Rattle.roster.specs.Holdings.{altered}
use Rattle.model.specs.Acts.{ChangedBy, act_refusal, acted, held_by}
use Rattle.model.specs.Drafts.{unless_refused}
use Rattle.model.specs.States.{State}
use Rattle.model.specs.declared.call.OfficerAct.{OfficerAct}

module _ (before after : State) (act : OfficerAct) where
  -- a state that differs by the rule's change alone
  changed_by : (rule : Rule) → after.policy ≡ before.policy → after.clock ≡ before.clock
      → after.held ≡ altered (adds rule.kind) act.target rule.role act.part before.held → ChangedBy rule act.target act.part before after
  changed_by rule policy clock held = grind (arith, common_steps)

  by_answer : (found : Option Refusal) → act_refusal before act ≡ found → after ≡ acted before act
      → IfOk (answered found (tt {0})) (λ _. (rule : Rule) → slice_get before.policy.rules act.rule ≡ Some rule → ChangedBy rule act.target act.part before after)
  by_answer None e same =
      λ rule is_rule. changed_by rule (ap (λ (st : State). st.policy) same) (ap (λ (st : State). st.clock) same)
      (ap (λ (st : State). st.held) same
      ∙ ap (λ (o : Option Refusal). unless_refused o (held_by (slice_get before.policy.rules act.rule) act.target act.part before.held) before.held) e
      ∙ ap (λ (o : Option Rule). held_by o act.target act.part before.held) is_rule)
  by_answer (Some refusal) e same = tt

  -- an answer and a state that follow the tests tell what was changed
  pub told_changed : (r : Result (Unit {0}) Refusal) → r ≡ answered (act_refusal before act) (tt {0}) → after ≡ acted before act
      → IfOk r (λ _. (rule : Rule) → slice_get before.policy.rules act.rule ≡ Some rule → ChangedBy rule act.target act.part before after)
  told_changed r e same =
      subst (λ (x : Result (Unit {0}) Refusal). IfOk x (λ _. (rule : Rule) → slice_get before.policy.rules act.rule ≡ Some rule → ChangedBy rule act.target act.part before after)) (sym e)
      (by_answer (act_refusal before act) refl same)
