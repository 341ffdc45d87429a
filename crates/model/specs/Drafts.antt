-- A draft: its calls, their refusals in order, and what each makes of it. Assumes nothing.
use Rattle.std.specs.Prelude.{Bool, true, false, List, [], ◌∷◌, Some, None, Option, Result, nat_le, nat_lt}
use Rattle.policy.specs.Policies.{Policy, blank, with_permission, with_proposed, schedule_fits, size_tests, permission_tests, rule_tests}
use Rattle.policy.specs.Refusals.{Test, answered, first_failing}
use Rattle.policy.specs.declared.refusal.Refusal.{Refusal}
use Rattle.policy.specs.declared.refusal.Refusal.TheVariants.{SizeTooLate, BadRow, RoleOutOfRange, BadSchedule}
use Rattle.roster.specs.Holdings.{Held, nothing, altered}
use Rattle.model.specs.Runs.{after_all}
use Rattle.model.specs.declared.call.DraftCall.{DraftCall}
use Rattle.model.specs.declared.call.DraftCall.TheVariants.{Size, Put, Perm, Rule}

pub record DraftState : Type 0 where
  pub policy : Policy
  pub held : Held
  -- no put, perm or rule was accepted yet
  pub fresh : Bool

-- a draft begins with one role, one slot and one person, and nothing is held
abbrev pub new_draft : DraftState
new_draft = record { policy = blank 1 1 1; held = nothing; fresh = true }

-- the tests of a call, in their order
abbrev pub draft_tests : DraftCall → DraftState → List Test
draft_tests (Size roles slots persons) d = (d.fresh, SizeTooLate) ∷ size_tests roles slots persons
draft_tests (Put row role schedule) d =
    (nat_le row d.policy.persons, BadRow)
    ∷ ((nat_lt role d.policy.roles, RoleOutOfRange)
    ∷ ((schedule_fits d.policy.slots schedule, BadSchedule)
    ∷ []))
draft_tests (Perm permission mask) d = permission_tests d.policy permission mask
draft_tests (Rule proposed) d = rule_tests d.policy proposed

-- why a call is refused, if it is
abbrev pub draft_refusal : DraftCall → DraftState → Option Refusal
draft_refusal call d = first_failing (draft_tests call d)

-- what a draft answers to a call, but for the number of a rule
abbrev pub draft_answer : DraftCall → DraftState → Result (Unit {0}) Refusal
draft_answer call d = answered (draft_refusal call d) tt

-- what an accepted call makes of the draft; size comes before any put, perm and rule, so it begins anew
abbrev pub drafted_by : DraftCall → DraftState → DraftState
drafted_by (Size roles slots persons) d = record { policy = blank roles slots persons; held = nothing; fresh = true }
drafted_by (Put row role schedule) d = record { policy = d.policy; held = altered true row role schedule d.held; fresh = false }
drafted_by (Perm permission mask) d = record { policy = with_permission permission mask d.policy; held = d.held; fresh = false }
drafted_by (Rule proposed) d = record { policy = with_proposed proposed d.policy; held = d.held; fresh = false }

-- the new value, or the old one where a call is refused
abbrev pub unless_refused : {X : Type 0} → Option Refusal → X → X → X
unless_refused None new old = new
unless_refused (Some refusal) new old = old

abbrev pub next_draft : DraftCall → DraftState → DraftState
next_draft call d = unless_refused (draft_refusal call d) (drafted_by call d) d

-- a draft after a list of calls
abbrev pub drafted : List DraftCall → DraftState → DraftState
drafted calls d = after_all next_draft calls d
