-- What stays while a register is in force: its sizes, permissions and rules. Assumes nothing.
use Rattle.std.specs.Prelude.{◌≡◌, ℕ, ◌^◌, ◌<◌, Bool, true, ◌&&◌, List, [], ◌∷◌, ◌++◌, length, replicate, is_some, Some, None, Option, nat_le, nat_lt, slice_index, slice_set}
use Rattle.std.specs.List.{slice_get}
use Rattle.policy.specs.Masks.{apart}
use Rattle.policy.specs.Refusals.{Test}
use Rattle.policy.specs.declared.kind.Kind.{Kind}
use Rattle.policy.specs.declared.refusal.Refusal.TheVariants.{SizeOutOfRange, UnknownKind, RoleOutOfRange, BadSchedule, NeedSharesBar, GradeTooHigh, NoSuchPermission, TooManyRules}
use Rattle.policy.specs.declared.rule.ProposedRule.{ProposedRule}
use Rattle.policy.specs.declared.rule.Rule.{Rule}

pub record Policy : Type 0 where
  pub roles : ℕ
  pub slots : ℕ
  pub persons : ℕ
  -- the mask of each permission
  pub permissions : List ℕ
  -- a rule's number is its place
  pub rules : List Rule

-- the rule with that number
abbrev pub IsRule : Policy → ℕ → Rule → Type 0
IsRule policy number rule = slice_get policy.rules number ≡ Some rule

-- the roles that give a permission
abbrev pub permission_mask : Policy → ℕ → ℕ
permission_mask policy permission = slice_index policy.permissions permission

-- a policy of that size with no rule, and with no role in any permission
abbrev pub blank : ℕ → ℕ → ℕ → Policy
blank roles slots persons = record { roles = roles; slots = slots; persons = persons; permissions = replicate 32 0; rules = [] }

-- the policy with the permission's mask set
abbrev pub with_permission : ℕ → ℕ → Policy → Policy
with_permission permission mask policy =
    record { roles = policy.roles; slots = policy.slots; persons = policy.persons; permissions = slice_set policy.permissions permission mask; rules = policy.rules }

-- the policy with one rule more
abbrev pub with_rule : Rule → Policy → Policy
with_rule rule policy =
    record { roles = policy.roles; slots = policy.slots; persons = policy.persons; permissions = policy.permissions; rules = policy.rules ++ (rule ∷ []) }

-- the rule that is proposed, once its kind is known
abbrev pub as_proposed : Kind → ProposedRule → Rule
as_proposed kind proposed = record {
  kind = kind;
  officer = proposed.officer;
  rule_schedule = proposed.rule_schedule;
  need = proposed.need;
  bar = proposed.bar;
  role_schedule = proposed.role_schedule;
  role = proposed.role;
  grade = proposed.grade;
}

-- the policy with the proposed rule, if its kind is known
abbrev pub with_kind : Option Kind → ProposedRule → Policy → Policy
with_kind None proposed policy = policy
with_kind (Some kind) proposed policy = with_rule (as_proposed kind proposed) policy

-- a schedule that is not empty and has no slot from `slots` on
abbrev pub schedule_fits : ℕ → ℕ → Bool
schedule_fits slots schedule = nat_lt 0 schedule && nat_lt schedule (2 ^ slots)

-- a mask with no role from `roles` on
abbrev pub mask_fits : ℕ → ℕ → Bool
mask_fits roles mask = nat_lt mask (2 ^ roles)

-- the tests of a new size, in their order
abbrev pub size_tests : ℕ → ℕ → ℕ → List Test
size_tests roles slots persons =
    (nat_le 1 roles && (nat_le roles 16 && (nat_le 1 slots && (nat_le slots 32 && (nat_le 1 persons && nat_le persons 15)))), SizeOutOfRange) ∷ []

-- the tests of a permission's new mask, in their order
abbrev pub permission_tests : Policy → ℕ → ℕ → List Test
permission_tests policy permission mask =
    (nat_lt permission 32, NoSuchPermission) ∷ ((mask_fits policy.roles mask, RoleOutOfRange) ∷ [])

-- the officer role, need, bar and the role of a proposal lie inside the roles
abbrev pub proposed_roles_fit : ℕ → ProposedRule → Bool
proposed_roles_fit roles proposed =
    nat_lt proposed.officer roles && (mask_fits roles proposed.need && (mask_fits roles proposed.bar && nat_lt proposed.role roles))

-- both schedules of a proposal fit
abbrev pub proposed_schedules_fit : ℕ → ProposedRule → Bool
proposed_schedules_fit slots proposed = schedule_fits slots proposed.rule_schedule && schedule_fits slots proposed.role_schedule

-- the tests of a proposed rule of a known kind, in their order
abbrev pub proposal_tests : Policy → ProposedRule → List Test
proposal_tests policy proposed =
    (proposed_roles_fit policy.roles proposed, RoleOutOfRange)
    ∷ ((proposed_schedules_fit policy.slots proposed, BadSchedule)
    ∷ ((apart proposed.need proposed.bar, NeedSharesBar)
    ∷ ((nat_le proposed.grade 15, GradeTooHigh)
    ∷ ((nat_lt (length policy.rules) 64, TooManyRules)
    ∷ []))))

-- the tests of a proposed rule, in their order
abbrev pub rule_tests : Policy → ProposedRule → List Test
rule_tests policy proposed = (is_some proposed.kind, UnknownKind) ∷ proposal_tests policy proposed

-- the policy after a rule was accepted; a rule of no kind never is
abbrev pub with_proposed : ProposedRule → Policy → Policy
with_proposed proposed policy = with_kind proposed.kind proposed policy

-- what every rule of a policy passes: its roles and slots lie inside the sizes, need and bar share no role, and its grade is at most 15
abbrev pub proper : ℕ → ℕ → Rule → Bool
proper roles slots rule =
    nat_lt rule.officer roles && (mask_fits roles rule.need && (mask_fits roles rule.bar && (nat_lt rule.role roles
    && (schedule_fits slots rule.rule_schedule && (schedule_fits slots rule.role_schedule
    && (apart rule.need rule.bar && nat_le rule.grade 15))))))

abbrev pub AllProper : ℕ → ℕ → List Rule → Type 0
AllProper roles slots rules = (number : ℕ) (rule : Rule) → slice_get rules number ≡ Some rule → proper roles slots rule ≡ true

-- the mask of every permission lies inside the roles
abbrev pub MasksFit : ℕ → List ℕ → Type 0
MasksFit roles permissions = (permission : ℕ) → slice_index permissions permission < 2 ^ roles
