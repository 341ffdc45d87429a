-- Calls keep a state well-formed. Assumes nothing.
use Rattle.std.proofs.Common.{◌≡◌, ℕ, ◌+◌, ◌<◌, ◌≤◌, Bool, true, false, cond, ltb, Some, None, Option, sym, refl, arith}
use Rattle.std.proofs.lemmas.Grind.{common_steps}
use Rattle.std.specs.List.{slice_get}
use Rattle.std.proofs.lemmas.Bool.{ltb-true}
use Rattle.policy.specs.Kinds.{adds}
use Rattle.policy.specs.declared.refusal.Refusal.{Refusal}
use Rattle.policy.specs.declared.rule.Rule.{Rule}
use Rattle.policy.proofs.Policies.{kept_by}
use Rattle.roster.specs.Holdings.{Held, altered}
use Rattle.model.specs.Acts.{act_refusal, acted, held_by}
use Rattle.model.specs.Calls.{next}
use Rattle.model.specs.Drafts.{unless_refused}
use Rattle.model.specs.Held.{WithinRoles}
use Rattle.model.specs.States.{State, ticked, last_tick}
use Rattle.model.specs.declared.call.Call.{Call}
use Rattle.model.specs.declared.call.Call.TheVariants.{Tick, Act, May}
use Rattle.model.proofs.WellFormed.{WellFormed}

-- a clock that may tick stays within its end
clock_on : (b : Bool) (clock : ℕ) (refusal : Refusal) → b ≡ ltb clock last_tick → clock ≤ last_tick → unless_refused (cond b None (Some refusal)) (clock + 1) clock ≤ last_tick
clock_on true clock refusal e h = omega (arith, ltb-true clock last_tick (sym e))
clock_on false clock refusal e h = h

-- with another clock and other holdings below the roles
pub with_state : (st : State) → WellFormed st → (clock : ℕ) (held : Held) → clock ≤ last_tick → WithinRoles st.policy.roles held
    → WellFormed (record { policy = st.policy; clock = clock; held = held })
with_state st fine clock held on below = record {
  few_roles = fine.few_roles;
  some_slot = fine.some_slot;
  few_slots = fine.few_slots;
  few_persons = fine.few_persons;
  rules = fine.rules;
  permissions = fine.permissions;
  clock = on;
  held = below;
}

by_test : (test to before : Bool) (P : Type 0) → (test ≡ true → P) → (before ≡ true → P) → cond test to before ≡ true → P
by_test true to before P h k e = h refl
by_test false to before P h k e = k e

-- what is altered lies below the roles, if the role does
pub altered_below : (roles : ℕ) (to : Bool) (row role part : ℕ) (held : Held) → role < roles → WithinRoles roles held
    → WithinRoles roles (altered to row role part held)
altered_below roles to row role part held small below r s i = grind (arith, common_steps)

held_below : (st : State) → WellFormed st → (number : ℕ) (found : Option Rule) → slice_get st.policy.rules number ≡ found → (target part : ℕ)
    → WithinRoles st.policy.roles (held_by found target part st.held)
held_below st fine number None e target part = fine.held
held_below st fine number (Some rule) e target part =
    altered_below st.policy.roles (adds rule.kind) target rule.role part st.held
    (kept_by st.policy.roles st.policy.slots rule (fine.rules number rule e)).role fine.held

chosen_below : (roles : ℕ) (found : Option Refusal) (new old : Held) → WithinRoles roles new → WithinRoles roles old
    → WithinRoles roles (unless_refused found new old)
chosen_below roles None new old h k = h
chosen_below roles (Some refusal) new old h k = k

pub next_formed : (call : Call) (st : State) → WellFormed st → WellFormed (next call st)
next_formed Tick st fine = with_state st fine (ticked st).clock st.held (clock_on (ltb st.clock last_tick) st.clock _ refl fine.clock) fine.held
next_formed (Act act) st fine =
    with_state st fine st.clock (acted st act).held fine.clock
    (chosen_below st.policy.roles (act_refusal st act) (held_by (slice_get st.policy.rules act.rule) act.target act.part st.held) st.held
    (held_below st fine act.rule (slice_get st.policy.rules act.rule) refl act.target act.part) fine.held)
next_formed (May person permission) st fine = fine
