-- Acts: when one is allowed, why one is refused, and what one changes. Assumes nothing.
use Rattle.std.specs.Prelude.{◌≡◌, ℕ, ◌<◌, ◌≤◌, Bool, true, false, not, ◌&&◌, ◌||◌, List, [], ◌∷◌, Some, None, Option, ◌≢◌, nat_le}
use Rattle.std.specs.List.{list_all, range_with_len, slice_get}
use Rattle.policy.specs.Kinds.{adds, changes}
use Rattle.policy.specs.Masks.{bit, Inside, inside}
use Rattle.policy.specs.Policies.{Policy, IsRule, schedule_fits}
use Rattle.policy.specs.Refusals.{Test, first_failing}
use Rattle.policy.specs.Rules.{meets}
use Rattle.policy.specs.declared.refusal.Refusal.{Refusal}
use Rattle.policy.specs.declared.refusal.Refusal.TheVariants.{NoSuchRule, BadRow, BadSchedule, OutsideRoleSchedule, OutsideRuleSchedule, OfficerLacksRole, RoleNotEnabled, NeedOrBarFails}
use Rattle.policy.specs.declared.rule.Rule.{Rule}
use Rattle.roster.specs.Holdings.{Held, altered, mask}
use Rattle.model.specs.Drafts.{unless_refused}
use Rattle.model.specs.States.{State, slot_now}
use Rattle.model.specs.declared.call.OfficerAct.{OfficerAct}

-- a person's row
pub record IsPerson (policy : Policy) (row : ℕ) : Type 0 where
  pub from_one : 1 ≤ row
  pub to_last : row ≤ policy.persons

-- the rules of time allow the act: by its rule, by its officer, on its target row, for the slots of its part
pub record Allowed (st : State) (act : OfficerAct) : Type 0 where
  pub rule : Rule
  pub is_rule : IsRule st.policy act.rule rule
  pub by_person : IsPerson st.policy act.officer
  pub on_row : act.target ≤ st.policy.persons
  pub on_changed_row : changes rule.kind act.target ≡ true
  pub some_slot : 0 < act.part
  pub in_slots : (slot : ℕ) → bit act.part slot ≡ true → slot < st.policy.slots
  pub in_role_schedule : Inside act.part rule.role_schedule
  pub in_rule_schedule : bit rule.rule_schedule (slot_now st) ≡ true
  pub officer_holds : st.held act.officer (slot_now st) rule.officer ≡ true
  pub enabled : st.held 0 (slot_now st) rule.officer ≡ true
  pub holds_need : (slot role : ℕ) → bit act.part slot ≡ true → bit rule.need role ≡ true → st.held act.target slot role ≡ true
  pub lacks_bar : (slot role : ℕ) → bit act.part slot ≡ true → bit rule.bar role ≡ true → st.held act.target slot role ≡ false

-- an act by that rule changed this and nothing else: in the target row, in every slot of the part, the rule's role is now held or not held, by the rule's kind
pub record ChangedBy (rule : Rule) (target part : ℕ) (before after : State) : Type 0 where
  pub same_policy : after.policy ≡ before.policy
  pub same_clock : after.clock ≡ before.clock
  pub there : (slot : ℕ) → bit part slot ≡ true → after.held target slot rule.role ≡ adds rule.kind
  pub other_rows : (row slot role : ℕ) → (row ≢ target) → after.held row slot role ≡ before.held row slot role
  pub other_slots : (row slot role : ℕ) → bit part slot ≡ false → after.held row slot role ≡ before.held row slot role
  pub other_roles : (row slot role : ℕ) → (role ≢ rule.role) → after.held row slot role ≡ before.held row slot role

-- if the part has the slot, the target row meets the rule there
abbrev pub meets_at : Held → Rule → ℕ → ℕ → ℕ → Bool
meets_at held rule target part slot = not (bit part slot) || meets rule (mask held target slot)

-- in every slot of the part, of those below `slots`, the target row meets the rule
abbrev pub meets_in : Held → Rule → ℕ → ℕ → ℕ → Bool
meets_in held rule target part slots = list_all (meets_at held rule target part) (range_with_len 0 slots)

-- officer and target are rows that the act may name
abbrev pub rows_fit : Policy → Rule → OfficerAct → Bool
rows_fit policy rule act =
    nat_le 1 act.officer && (nat_le act.officer policy.persons && (nat_le act.target policy.persons && changes rule.kind act.target))

-- the tests of an act by that rule, in their order
abbrev pub act_tests : State → Rule → OfficerAct → List Test
act_tests st rule act =
    (rows_fit st.policy rule act, BadRow)
    ∷ ((schedule_fits st.policy.slots act.part, BadSchedule)
    ∷ ((inside act.part rule.role_schedule, OutsideRoleSchedule)
    ∷ ((bit rule.rule_schedule (slot_now st), OutsideRuleSchedule)
    ∷ ((st.held act.officer (slot_now st) rule.officer, OfficerLacksRole)
    ∷ ((st.held 0 (slot_now st) rule.officer, RoleNotEnabled)
    ∷ ((meets_in st.held rule act.target act.part st.policy.slots, NeedOrBarFails)
    ∷ []))))))

-- why an act by the rule that was found is refused, if it is
abbrev pub refusal_by : Option Rule → State → OfficerAct → Option Refusal
refusal_by None st act = Some NoSuchRule
refusal_by (Some rule) st act = first_failing (act_tests st rule act)

abbrev pub act_refusal : State → OfficerAct → Option Refusal
act_refusal st act = refusal_by (slice_get st.policy.rules act.rule) st act

-- what is held after an accepted act by the rule that was found
abbrev pub held_by : Option Rule → ℕ → ℕ → Held → Held
held_by None target part held = held
held_by (Some rule) target part held = altered (adds rule.kind) target rule.role part held

-- what an act makes of the state
abbrev pub acted : State → OfficerAct → State
acted st act = record {
  policy = st.policy;
  clock = st.clock;
  held = unless_refused (act_refusal st act) (held_by (slice_get st.policy.rules act.rule) act.target act.part st.held) st.held;
}
