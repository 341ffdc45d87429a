use Rattle.std.proofs.Common.{◌≡◌, ℕ, ◌<◌, get_or}
use Rattle.policy.specs.Masks.{bit}
use Rattle.roster.proofs.role_schedules.RoleSchedulesRowRecord.mask.Given as goal

-- the roles passed are gathered
abbrev pub invariant-loop-role : goal.invariant-loop-role
invariant-loop-role l = (i : ℕ) → i < l.role → bit l.mask i ≡ bit (get_or l.self.schedules i 0) l.slot
