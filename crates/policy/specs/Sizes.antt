-- The sizes of a register, as numbers. Assumes nothing.
use Rattle.std.specs.Prelude.{ℕ}
use Rattle.policy.specs.declared.sizes.Sizes.{Sizes}

-- how many roles, slots and persons
abbrev pub numbers : Sizes → ℕ × ℕ × ℕ
numbers sizes = (sizes.roles, sizes.slots, sizes.persons)
