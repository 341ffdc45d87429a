-- A table of sixteen records, whatever a record is: what it holds, and after one record is changed. Assumes nothing.
use Rattle.std.proofs.Common.{◌≡◌, ℕ, ◌<◌, Bool, arith}
use mathlib.Core.Path.{fun_ext}
use Rattle.std.proofs.lemmas.Grind.{common_steps}
use Rattle.std.proofs.lemmas.Bool.Decides.{nat_tests}
use Rattle.policy.proofs.Bits.{bit_none}
use Rattle.roster.specs.Holdings.{Held, mask}
use Rattle.roster.specs.Tables.{table_held}
use Rattle.roster.specs.declared.table.Table.{Table}
use Rattle.roster.proofs.Masks.{is_mask}

-- what agrees everywhere is the same
pub same_held : (f g : Held) → ((row slot role : ℕ) → f row slot role ≡ g row slot role) → f ≡ g
same_held f g same = fun_ext (λ row. fun_ext (λ slot. fun_ext (λ role. same row slot role)))

-- the mask of a row from 16 on, or in a slot from 32 on
pub table_past : {X : Type 0} (holds : X → ℕ → ℕ → Bool) (table : Table X) (row slot : ℕ) → (row < 16 → slot < 32 → ⊥)
    → 0 ≡ mask (table_held holds table) row slot
table_past holds table row slot h =
    is_mask (table_held holds table) row slot 0 (omega arith) (λ role l. grind (arith, common_steps, nat_tests, bit_none))
