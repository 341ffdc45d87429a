use Rattle.std.proofs.Common.{refl}
use Rattle.std.proofs.lemmas.Result.{err_from_is_err_and}
use Rattle.register.proofs.InMemory.{same_draft}
use Rattle.register.proofs.draft.Draft.perm.Goals as goal

pub returns-in_err-set_permission-clause-kept : goal.returns-in_err-set_permission-clause-kept
returns-in_err-set_permission-clause-kept g c =
    rw ((err_from_is_err_and c.from_residual.result c.from_residual.ensures.1).1) (same_draft _ c.args.self.now c.in_err-set_permission.ensures.after refl refl)
