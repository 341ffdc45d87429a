use Rattle.std.proofs.Common.{◌≡◌, ℕ, ◌<◌, cond, ◌&&◌, eqb, ltb, get_or}
use Rattle.policy.specs.Masks.{bit}
use Rattle.roster.proofs.row.RowRowRecord.change.Given as goal

-- the slots passed are changed, the others are as they were
abbrev pub invariant-loop-slot : goal.invariant-loop-slot
invariant-loop-slot l =
    (k i : ℕ) → i < 16
    → bit (get_or l.mask-items k 0) i
    ≡ cond (ltb k l.slot && (eqb i l.role && bit l.schedule k)) l.to (bit (get_or l.initial.mask-items k 0) i)
