-- What the state of every register in memory keeps. Assumes nothing.
use Rattle.std.proofs.Common.{◌≡◌, ℕ, ◌≤◌, Bool, true, false, refl, ◌∙◌, ⊎_elim, arith}
use Rattle.std.proofs.lemmas.Bool.{cases_lt}
use Rattle.policy.specs.Masks.{bit}
use Rattle.policy.specs.Policies.{AllProper, MasksFit}
use Rattle.policy.proofs.Bits.{bit_past}
use Rattle.roster.specs.Holdings.{mask}
use Rattle.roster.proofs.Masks.{mask_below, bit_mask}
use Rattle.model.specs.Held.{WithinRoles}
use Rattle.model.specs.States.{State, last_tick}

pub record WellFormed (st : State) : Type 0 where
  pub few_roles : st.policy.roles ≤ 16
  pub some_slot : 1 ≤ st.policy.slots
  pub few_slots : st.policy.slots ≤ 32
  pub few_persons : st.policy.persons ≤ 15
  pub rules : AllProper st.policy.roles st.policy.slots st.policy.rules
  pub permissions : MasksFit st.policy.roles st.policy.permissions
  pub clock : st.clock ≤ last_tick
  pub held : WithinRoles st.policy.roles st.held

not_true_false : (b : Bool) → (b ≡ true → ⊥) → false ≡ b
not_true_false true h = absurd (h refl)
not_true_false false h = refl

-- the bits of a row's mask are the roles that it holds
pub bit_held : (st : State) → WellFormed st → (row slot role : ℕ) → bit (mask st.held row slot) role ≡ st.held row slot role
bit_held st fine row slot role =
    ⊎_elim (bit_mask st.held row slot role)
    (λ h. bit_past 16 (mask st.held row slot) role (mask_below st.held row slot) h
    ∙ not_true_false (st.held row slot role) (λ e. omega (arith, fine.held row slot role e, fine.few_roles)))
    (cases_lt role 16)
