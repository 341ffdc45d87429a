-- What a roster's change makes of holdings of the roles that there are. Assumes nothing.
use Rattle.std.proofs.Common.{◌≡◌, ℕ, ◌<◌, Bool, true, false, cond, ◌&&◌, ltb}
use Rattle.std.proofs.lemmas.Bool.{lt-ltb, and_from, cond-true}
use Rattle.roster.specs.Holdings.{Held, altered, changed}
use Rattle.model.specs.Held.{WithinRoles}
use Rattle.model.proofs.Formed.{altered_below}

-- a change of a role that there is keeps to these roles
pub changed_within : (roles : ℕ) (held : Held) (to : Bool) (row role schedule : ℕ) → role < roles → WithinRoles roles held → WithinRoles roles (changed to row role schedule held)
changed_within roles held to row role schedule low within r s i = by_test (ltb row 16 && ltb role 16)
  where
    by_test : (small : Bool) → cond small (altered to row role schedule held) held r s i ≡ true → i < roles
    by_test true e = altered_below roles to row role schedule held low within r s i e
    by_test false e = within r s i e

-- of a row and a role below 16 it is what the rules say
pub changed_is : (held : Held) (to : Bool) (row role schedule : ℕ) → row < 16 → role < 16 → changed to row role schedule held ≡ altered to row role schedule held
changed_is held to row role schedule few_rows few_roles =
    cond-true (ltb row 16 && ltb role 16) (altered to row role schedule held) held (and_from (ltb row 16) (ltb role 16) (lt-ltb row 16 few_rows) (lt-ltb role 16 few_roles))
