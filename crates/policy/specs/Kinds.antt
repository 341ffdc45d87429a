-- What the four kinds of rules do. Assumes nothing.
use Rattle.std.specs.Prelude.{ℕ, Bool, true, false, not, ◌==◌}
use Rattle.policy.specs.declared.kind.Kind.{Kind}
use Rattle.policy.specs.declared.kind.Kind.TheVariants.{Enable, Disable, Assign, Revoke}

-- enable and assign add the role, disable and revoke take it
abbrev pub adds : Kind → Bool
adds Enable = true
adds Disable = false
adds Assign = true
adds Revoke = false

-- enable and disable change row 0, assign and revoke the others
abbrev pub changes : Kind → ℕ → Bool
changes Enable row = row == 0
changes Disable row = row == 0
changes Assign row = not (row == 0)
changes Revoke row = not (row == 0)
