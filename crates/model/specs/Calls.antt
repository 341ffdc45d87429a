-- What each call in force answers, and what it makes of the state. Assumes nothing.
use Rattle.std.specs.Prelude.{List, Result}
use Rattle.policy.specs.Refusals.{answered}
use Rattle.policy.specs.declared.refusal.Refusal.{Refusal}
use Rattle.model.specs.Acts.{act_refusal, acted}
use Rattle.model.specs.Runs.{after_all}
use Rattle.model.specs.States.{State, tick_refusal, ticked}
use Rattle.model.specs.Uses.{may_refusal, may_use}
use Rattle.model.specs.declared.call.Answer.{Answer}
use Rattle.model.specs.declared.call.Answer.TheVariants.{Done, MayUse}
use Rattle.model.specs.declared.call.Call.{Call}
use Rattle.model.specs.declared.call.Call.TheVariants.{Tick, Act, May}

abbrev pub answer_to : Call → State → Result Answer Refusal
answer_to Tick st = answered (tick_refusal st) Done
answer_to (Act act) st = answered (act_refusal st act) Done
answer_to (May person permission) st = answered (may_refusal st person permission) (MayUse (may_use st person permission))

abbrev pub next : Call → State → State
next Tick st = ticked st
next (Act act) st = acted st act
next (May person permission) st = st

-- the state after a list of calls
abbrev pub run : List Call → State → State
run calls st = after_all next calls st
