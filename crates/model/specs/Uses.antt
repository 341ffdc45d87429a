-- The question whether a person may use a permission. Assumes nothing.
use Rattle.std.specs.Prelude.{◌≡◌, ℕ, Bool, true, ◌&&◌, List, [], ◌∷◌, Option, bit_and, nat_le, nat_lt}
use Rattle.policy.specs.Masks.{bit, shares}
use Rattle.policy.specs.Policies.{permission_mask}
use Rattle.policy.specs.Refusals.{Test, first_failing}
use Rattle.policy.specs.declared.refusal.Refusal.{Refusal}
use Rattle.policy.specs.declared.refusal.Refusal.TheVariants.{BadRow, NoSuchPermission}
use Rattle.roster.specs.Holdings.{mask}
use Rattle.model.specs.States.{State, slot_now}

-- some role of the permission is held in the slot now by the person's row and by row 0
pub record Uses (st : State) (person permission : ℕ) : Type 0 where
  pub role : ℕ
  pub of_permission : bit (permission_mask st.policy permission) role ≡ true
  pub held_by_person : st.held person (slot_now st) role ≡ true
  pub enabled : st.held 0 (slot_now st) role ≡ true

-- the same as a test
abbrev pub may_use : State → ℕ → ℕ → Bool
may_use st person permission =
    shares (bit_and (mask st.held person (slot_now st)) (mask st.held 0 (slot_now st))) (permission_mask st.policy permission)

-- the tests of a question, in their order
abbrev pub may_tests : State → ℕ → ℕ → List Test
may_tests st person permission =
    (nat_le 1 person && nat_le person st.policy.persons, BadRow) ∷ ((nat_lt permission 32, NoSuchPermission) ∷ [])

-- why a question is refused, if it is
abbrev pub may_refusal : State → ℕ → ℕ → Option Refusal
may_refusal st person permission = first_failing (may_tests st person permission)
