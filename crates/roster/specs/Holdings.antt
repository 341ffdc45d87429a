-- What is held: the meaning of a roster. Assumes nothing.
use Rattle.std.specs.Prelude.{◌≡◌, ℕ, zero, suc, ◌+◌, ◌^◌, ◌<◌, Bool, true, false, cond, ◌&&◌, ◌==◌, nat_lt}
use Rattle.policy.specs.Masks.{bit}

-- row, slot and role: held or not
abbrev pub Held : Type 0
Held = ℕ → ℕ → ℕ → Bool

-- nothing is held
abbrev pub nothing : Held
nothing row slot role = false

-- only rows and roles below 16 and slots below 32 hold anything
abbrev pub Within : Held → Type 0
Within held = (row slot role : ℕ) → held row slot role ≡ true → (row < 16) × (slot < 32) × (role < 16)

-- the sum of 2 ^ i over the i below n that pass
abbrev pub sum_of : ℕ → (ℕ → Bool) → ℕ
sum_of zero test = 0
sum_of (suc n) test = sum_of n test + cond (test n) (2 ^ n) 0

-- the mask of the roles that a row holds in a slot
unfoldable pub mask : Held → ℕ → ℕ → ℕ
mask held row slot = sum_of 16 (held row slot)

-- that role is held from then on, or not held, in that row in the slots of the schedule; all else is kept
abbrev pub altered : Bool → ℕ → ℕ → ℕ → Held → Held
altered to row role schedule held r s i = cond (r == row && (i == role && bit schedule s)) to (held r s i)

-- the same by a roster, which changes nothing in a row or role from 16 on
abbrev pub changed : Bool → ℕ → ℕ → ℕ → Held → Held
changed to row role schedule held = cond (nat_lt row 16 && nat_lt role 16) (altered to row role schedule held) held
