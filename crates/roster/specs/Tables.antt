-- What a table holds: a record for each row, whatever a record is. Assumes nothing.
use Rattle.std.specs.Prelude.{ℕ, Bool, false, ◌&&◌, Option, Some, None, nat_lt, slice_get}
use Rattle.roster.specs.Holdings.{Held}
use Rattle.roster.specs.declared.table.Table.{Table}

-- the record of a row; from 16 on there is none
abbrev pub row_at : {T : Type 0} → Table T → ℕ → Option T
row_at table row = slice_get table.rows row

-- whether a row's record, if there is one, holds the role in the slot
abbrev pub record_held : {T : Type 0} → (T → ℕ → ℕ → Bool) → Option T → ℕ → ℕ → Bool
record_held holds None slot role = false
record_held holds (Some of_row) slot role = nat_lt slot 32 && (nat_lt role 16 && holds of_row slot role)

-- row, slot and role: held or not
abbrev pub table_held : {T : Type 0} → (T → ℕ → ℕ → Bool) → Table T → Held
table_held holds table row slot role = nat_lt row 16 && record_held holds (row_at table row) slot role
