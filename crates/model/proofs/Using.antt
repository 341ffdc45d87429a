-- The test of `may` tells whether the person may use the permission. Assumes nothing.
use Rattle.std.proofs.Common.{ℕ, Decides, sym, ◌∙◌, arith}
use lib.Bits.{bit_and, and_le_l}
use Rattle.std.proofs.lemmas.Bool.{and_parts, and_from}
use Rattle.policy.specs.Masks.{bit, Shares}
use Rattle.policy.specs.Policies.{permission_mask}
use Rattle.policy.proofs.Bits.{bit-and, shares_decides}
use Rattle.roster.specs.Holdings.{mask}
use Rattle.roster.proofs.Masks.{mask_below}
use Rattle.model.specs.States.{State, slot_now}
use Rattle.model.specs.Uses.{Uses, may_use}
use Rattle.model.proofs.WellFormed.{WellFormed, bit_held}

module _ (st : State) (fine : WellFormed st) (person permission : ℕ) where
  abbrev own : ℕ
  own = mask st.held person (slot_now st)

  abbrev enabling : ℕ
  enabling = mask st.held 0 (slot_now st)

  used : Shares (bit_and own enabling) (permission_mask st.policy permission) → Uses st person permission
  used s =
      let parts = and_parts (bit own s.0) (bit enabling s.0) (sym (bit-and own enabling s.0) ∙ s.1) in
      record {
        role = s.0;
        of_permission = s.2;
        held_by_person = sym (bit_held st fine person (slot_now st) s.0) ∙ parts.0;
        enabled = sym (bit_held st fine 0 (slot_now st) s.0) ∙ parts.1;
      }

  shared : Uses st person permission → Shares (bit_and own enabling) (permission_mask st.policy permission)
  shared u = (
    u.role,
    bit-and own enabling u.role ∙ and_from (bit own u.role) (bit enabling u.role) (bit_held st fine person (slot_now st) u.role ∙ u.held_by_person) (bit_held st fine 0 (slot_now st) u.role ∙ u.enabled),
    u.of_permission,
  )

  pub uses_decides : Decides (may_use st person permission) (Uses st person permission)
  uses_decides =
      let both = shares_decides 16 (bit_and own enabling) (permission_mask st.policy permission) (omega (arith, and_le_l own enabling, mask_below st.held person (slot_now st))) in
      (λ e. used (both.0 e), λ u. both.1 (shared u))
