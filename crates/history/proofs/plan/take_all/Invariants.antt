use Rattle.std.proofs.Common.{◌≡◌, ◌≤◌, ◌++◌, length, drop, vec_items, vec_len, vec_capacity}
use Rattle.model.specs.Runs.{after_all, answers_along}
use Rattle.history.proofs.plan.take_all.Given as goal

abbrev pub invariant-loop-call : goal.invariant-loop-call
invariant-loop-call g l =
    let m = g.M.TakesCalls in
    (vec_items l.answers ++ answers_along m.answer m.next (drop l.call-index l.calls) (m.state l.taker) ≡ answers_along m.answer m.next l.calls (m.state l.initial.taker))
    × (after_all m.next (drop l.call-index l.calls) (m.state l.taker) ≡ after_all m.next l.calls (m.state l.initial.taker))
    × (vec_len l.answers ≡ l.call-index)
    × (length l.calls ≤ vec_capacity l.answers)
