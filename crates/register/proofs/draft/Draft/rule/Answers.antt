use Rattle.std.proofs.Common.{refl, ap, ◌∙◌}
use Rattle.policy.specs.Tables.{policy_of}
use Rattle.policy.specs.declared.table.PolicyTable.{PolicyTable}
use Rattle.model.specs.Drafts.{draft_refusal, drafted_by}
use Rattle.model.specs.declared.call.DraftCall.TheVariants.{Rule}
use Rattle.model.proofs.Refused.{stays}
use Rattle.register.specs.Memory.{draft_of}
use Rattle.std.proofs.lemmas.Result.{err_from_is_err_and}
use Rattle.register.proofs.InMemory.{same_draft}
use Rattle.register.proofs.draft.Draft.rule.Goals as goal

pub returns-in_err-number-clause-after : goal.returns-in_err-number-clause-after
returns-in_err-number-clause-after g c =
    let draft = draft_of c.args.self.now in
    let call = Rule c.args.proposed in
    let told = c.in_err-number.ensures in
    ap (λ (t : PolicyTable). record { policy = policy_of t; held = draft.held; fresh = draft.fresh }) told.after
    ∙ stays (draft_refusal call draft) _ _ (drafted_by call draft) draft told.answer

pub returns-in_err-number-clause-kept : goal.returns-in_err-number-clause-kept
returns-in_err-number-clause-kept g c =
    rw ((err_from_is_err_and c.from_residual.result c.from_residual.ensures.1).1) (same_draft _ c.args.self.now c.in_err-number.ensures.after refl refl)
