use Rattle.std.proofs.Common.{◌≡◌, ◌+◌, ◌≤◌, length, refl, inl, arith, rules}
use Rattle.std.specs.Iterator.Adapters.{enumerate_source, enumerate_count}
use Rattle.text.specs.Pieces.{lines_of}
use Rattle.text.proofs.Rooms.{one_more, room-lines_of, count-lines_of}
use Rattle.text.proofs.answer.answer_lines.Given.{Over}
use Rattle.text.proofs.answer.answer_lines.Goals as goal

-- before the first line, no more lines are left than the text has bytes
few : (g : Over) (c : goal.After-into_iter-number-iterator g) → enumerate_count c.into_iter-number-iterator.result + length (lines_of (enumerate_source c.into_iter-number-iterator.result).0.now) ≤ length c.args.text.now
few g c =
    let all : (enumerate_source c.into_iter-number-iterator.result).0.now ≡ c.args.text.now = search rules in
    let none : enumerate_count c.into_iter-number-iterator.result ≡ 0 = search rules in
    rw (none, all) (omega (arith, count-lines_of c.args.text.now))

pub loop-number-init-derived : goal.loop-number-init-derived
loop-number-init-derived g c = ((tt, tt, inl (omega (arith, few g c))), tt)

pub loop-number-init : goal.loop-number-init
loop-number-init g c =
    let all : (enumerate_source c.into_iter-number-iterator.result).0.now ≡ c.args.text.now = search rules in
    record {
      can = (tt, tt, inl (omega (arith, few g c)));
      ends = tt;
      between = record {
        count = few g c;
        room = rw (all, c.new-page.ensures.bytes, c.new-page.ensures.empty) (omega (arith, c.requires, room-lines_of c.args.text.now));
        continues = record { grows = omega arith; size = refl; rest = refl; same = refl };
      };
    }

pub loop-number-preserved : goal.loop-number-preserved
loop-number-preserved g c =
    let steps = c.in-Some.ensures.steps in
    let between = one_more _ _ _ _ _ _ c.in-Some.line.now _ _ c.loop-number.invariant.between steps.0 (omega (arith, steps.2)) c.answer_line-forces.ensures.place c.answer_line-forces.ensures.page in
    record { can = (tt, tt, inl (omega (arith, between.count))); ends = tt; between = between }

pub loop-number-preserved-then-forces : goal.loop-number-preserved-then-forces
loop-number-preserved-then-forces g c =
    let steps = c.in-Some.ensures.steps in
    let between = one_more _ _ _ _ _ _ c.in-Some.line.now _ _ c.loop-number.invariant.between steps.0 (omega (arith, steps.2)) c.answer_line-forces.ensures.place c.answer_line-forces.ensures.page in
    record { can = (tt, tt, inl (omega (arith, between.count))); ends = tt; between = between }
