use Rattle.register.specs.Memory.{state_of}
use Rattle.model.proofs.Allowing.{told_allowed}
use Rattle.model.proofs.Changing.{told_changed}
use Rattle.register.proofs.InMemory.{formed}
use Rattle.register.proofs.in_force.Register.act.Goals as goal

pub returns : goal.returns
returns g c =
    let st = state_of c.args.self.now in
    let told = c.attempt.ensures in
    record {
      answer = told.answer;
      after = told.after;
      kept = told.kept;
      allowed = told_allowed st (formed c.args.self.now) c.args.act c.attempt.result told.answer;
      changes = told_changed st (state_of c.attempt.new.self) c.args.act c.attempt.result told.answer told.after;
    }
