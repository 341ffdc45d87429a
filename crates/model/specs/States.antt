-- The register in force: its state, and what its calls answer and alter. Assumes nothing.
use Rattle.std.specs.Prelude.{ℕ, ◌+◌, ◌%◌, [], ◌∷◌, Option, nat_lt}
use Rattle.policy.specs.Policies.{Policy}
use Rattle.policy.specs.Refusals.{first_failing}
use Rattle.policy.specs.declared.refusal.Refusal.{Refusal}
use Rattle.policy.specs.declared.refusal.Refusal.TheVariants.{ClockAtEnd}
use Rattle.roster.specs.Holdings.{Held}
use Rattle.model.specs.Drafts.{DraftState, unless_refused}

pub record State : Type 0 where
  pub policy : Policy
  pub clock : ℕ
  pub held : Held

-- the slot of the repeating clock
abbrev pub slot_now : State → ℕ
slot_now st = st.clock % st.policy.slots

-- a draft becomes a register with clock 0
abbrev pub in_force : DraftState → State
in_force d = record { policy = d.policy; clock = 0; held = d.held }

-- the last tick is to this reading
abbrev pub last_tick : ℕ
last_tick = 1000000000

-- why a tick is refused, if it is
abbrev pub tick_refusal : State → Option Refusal
tick_refusal st = first_failing ((nat_lt st.clock last_tick, ClockAtEnd) ∷ [])

-- what a tick makes of the state
abbrev pub ticked : State → State
ticked st = record { policy = st.policy; clock = unless_refused (tick_refusal st) (st.clock + 1) st.clock; held = st.held }
