use Rattle.std.proofs.Common.{sym, ap, ◌∙◌}
use Rattle.std.proofs.lemmas.Result.{err_from_is_err_and}
use Rattle.model.specs.Acts.{act_refusal}
use Rattle.model.specs.Calls.{answer_to}
use Rattle.model.specs.declared.call.Answer.TheVariants.{Done}
use Rattle.model.specs.declared.call.Call.{Call}
use Rattle.model.proofs.Refused.{refused_so}
use Rattle.register.specs.Memory.{state_of}
use Rattle.history.proofs.take.RegisterTakesCalls.take.Goals as goal

pub returns-in_err-act-in-Act-clause-answer : goal.returns-in_err-act-in-Act-clause-answer
returns-in_err-act-in-Act-clause-answer g c =
    let st = state_of c.args.self.now in
    let told = err_from_is_err_and c.from_residual-in_err-act-in-Act.result c.from_residual-in_err-act-in-Act.ensures.1 in
    rw (told.1, told.2)
    (refused_so (act_refusal st c.in-Act.act) (tt {0}) Done _ c.in_err-act-in-Act.ensures.answer ∙ ap (λ (call : Call). answer_to call st) (sym c.in-Act.is))
