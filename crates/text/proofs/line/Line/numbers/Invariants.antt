use Rattle.std.proofs.Common.{◌≡◌, ◌++◌, length, map, take, decimal}
use Rattle.text.specs.Pieces.{words_left}
use Rattle.text.proofs.line.Line.numbers.Given as goal

abbrev pub invariant-loop-number : goal.invariant-loop-number
invariant-loop-number g l = record {
  size : length l.number-items ≡ l.number-index-end;
  words : words_left l.initial.self.rest ≡ map decimal (take l.number-index l.number-items) ++ words_left l.self.rest;
}
