-- What a draft or a register in memory stands for, by what its roster holds. Assumes nothing.
use Rattle.policy.specs.Tables.{policy_of}
use Rattle.model.specs.Drafts.{DraftState}
use Rattle.model.specs.States.{State}
use Rattle.roster.specs.declared.traits.Roster.{Ghosts}
use Rattle.register.specs.declared.draft.Draft.{Draft}
use Rattle.register.specs.declared.in_force.Register.{Register}

abbrev pub draft_of : {R : Type 0} {g : Ghosts R} → Draft R g → DraftState
draft_of {g = g} draft = record { policy = policy_of draft.table; held = g.held draft.roster; fresh = draft.fresh }

abbrev pub state_of : {R : Type 0} {g : Ghosts R} → Register R g → State
state_of {g = g} register = record { policy = policy_of register.table; clock = register.clock; held = g.held register.roster }
