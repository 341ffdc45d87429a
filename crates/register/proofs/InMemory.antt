-- What every register in memory keeps, so that theorems about states owe no hypothesis. Assumes nothing.
use Rattle.std.proofs.Common.{◌≡◌}
use mathlib.Core.HLevel.{is_prop→PathP}
use Rattle.std.proofs.Math.Bridge.{le_prop}
use Rattle.roster.specs.declared.traits.Roster.{Ghosts}
use Rattle.model.specs.Held.{WithinRoles}
use Rattle.model.proofs.WellFormed.{WellFormed}
use Rattle.register.specs.Memory.{state_of}
use Rattle.register.specs.declared.draft.Draft.{Draft}
use Rattle.register.specs.declared.in_force.Register.{Register}

pub formed : {R : Type 0} {g : Ghosts R} (register : Register R g) → WellFormed (state_of register)
formed register = record {
  few_roles = register.table.sizes.few_roles;
  some_slot = register.table.sizes.some_slot;
  few_slots = register.table.sizes.few_slots;
  few_persons = register.table.sizes.few_persons;
  rules = register.table.proper;
  permissions = register.table.masks_fit;
  clock = register.ticking;
  held = register.within_roles;
}

-- drafts of the same table, roster and freshness are the same
pub same_draft : {R : Type 0} {g : Ghosts R} (d e : Draft R g) → d.table ≡ e.table → d.roster ≡ e.roster → d.fresh ≡ e.fresh → d ≡ e
same_draft {g = g} d e table roster fresh = λ i. record {
  table = table i;
  roster = roster i;
  fresh = fresh i;
  within_roles =
      is_prop→PathP (λ j. WithinRoles (table j).sizes.roles (g.held (roster j)))
      (λ j p q k row slot role held. le_prop (p row slot role held) (q row slot role held) k) d.within_roles e.within_roles i;
}
