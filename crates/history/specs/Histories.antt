-- Whole runs: what every call of a list answers, and where the list leads. Assumes nothing.
use Rattle.std.specs.Prelude.{List, Result}
use Rattle.policy.specs.declared.refusal.Refusal.{Refusal}
use Rattle.model.specs.Calls.{answer_to, next, run}
use Rattle.model.specs.Drafts.{DraftState, new_draft, draft_answer, next_draft, drafted}
use Rattle.model.specs.Runs.{answers_along}
use Rattle.model.specs.States.{State, in_force}
use Rattle.model.specs.declared.call.Answer.{Answer}
use Rattle.model.specs.declared.call.Call.{Call}
use Rattle.model.specs.declared.call.DraftCall.{DraftCall}

-- what a draft answers to each call of a list, one after the other
abbrev pub draft_answers : List DraftCall → DraftState → List (Result (Unit {0}) Refusal)
draft_answers calls d = answers_along draft_answer next_draft calls d

-- what a register in force answers to each call of a list, one after the other
abbrev pub answers_to : List Call → State → List (Result Answer Refusal)
answers_to calls st = answers_along answer_to next calls st

-- the register that a list of draft calls becomes
abbrev pub forced : List DraftCall → State
forced calls = in_force (drafted calls new_draft)

-- what follows from the calls alone
abbrev pub history : List DraftCall → List Call → State
history draft_calls calls = run calls (forced draft_calls)
