-- When a rule can be applied to a mask. Assumes nothing.
use Rattle.std.specs.Prelude.{ℕ, Bool, ◌&&◌}
use Rattle.policy.specs.Masks.{Inside, Apart, inside, apart}
use Rattle.policy.specs.declared.rule.Rule.{Rule}

-- the mask has all of need and none of bar
pub record Meets (rule : Rule) (mask : ℕ) : Type 0 where
  pub need : Inside rule.need mask
  pub bar : Apart rule.bar mask

-- the same as a test
abbrev pub meets : Rule → ℕ → Bool
meets rule mask = inside rule.need mask && apart rule.bar mask
