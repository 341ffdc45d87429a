use Rattle.std.proofs.Common.{length}
use Rattle.std.specs.Iterator.Adapters.{enumerate_source, enumerate_count}
use Rattle.text.specs.Pieces.{lines_of}
use Rattle.text.proofs.Rooms.{Between}
use Rattle.text.proofs.answer.answer_lines.Given as goal

abbrev pub invariant-loop-number : goal.invariant-loop-number
invariant-loop-number g l = record {
  can : (goal.iterator-loop-number g).can_next l.number-iterator;
  ends : (goal.iterator-loop-number g).is_finite l.number-iterator;
  between : Between (length l.text) (enumerate_count l.number-iterator) l.initial.page (lines_of (enumerate_source l.number-iterator).0.now) l.page;
}
