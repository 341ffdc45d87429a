-- Holdings of the roles that there are. Assumes nothing.
use Rattle.std.specs.Prelude.{◌≡◌, ℕ, ◌<◌, true}
use Rattle.roster.specs.Holdings.{Held}

-- only roles below that number are held
abbrev pub WithinRoles : ℕ → Held → Type 0
WithinRoles roles held = (row slot role : ℕ) → held row slot role ≡ true → role < roles
