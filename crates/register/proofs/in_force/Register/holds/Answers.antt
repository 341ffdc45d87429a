use Rattle.std.proofs.Common.{ℕ, ap, ◌∙◌}
use Rattle.policy.specs.Masks.{bit}
use Rattle.model.proofs.WellFormed.{bit_held}
use Rattle.register.specs.Memory.{state_of}
use Rattle.register.proofs.InMemory.{formed}
use Rattle.register.proofs.in_force.Register.holds.Goals as goal

pub returns : goal.returns
returns g c =
    let register = c.args.self.now in
    c.has_bit.ensures ∙ ap (λ (m : ℕ). bit m c.args.role) c.mask.ensures
    ∙ bit_held (state_of register) (formed register) c.args.row c.args.slot c.args.role
