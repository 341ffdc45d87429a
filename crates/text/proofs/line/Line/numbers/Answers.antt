use Rattle.std.proofs.Common.{◌≡◌, ◌++◌, ◌∙◌, ap, map, take, decimal, arith, length-set}
use Rattle.std.proofs.lemmas.List.{take_all}
use Rattle.text.specs.Pieces.{words_left}
use Rattle.text.proofs.Cutting.{numbers_more}
use Rattle.text.proofs.line.Line.numbers.Goals as goal

pub loop-number-preserved : goal.loop-number-preserved
loop-number-preserved g c =
    let held = c.loop-number.invariant in
    record {
      size = length-set c.loop-number.number-items c.loop-number.number-index c.in_ok-number.field-0 ∙ held.size;
      words = numbers_more c.loop-number.number-items c.loop-number.number-index c.in_ok-number.field-0 (words_left c.args.self.now.rest) (words_left c.loop-number.self.rest) (words_left c.number.new.self.rest) (omega (arith, held.size)) held.words c.in_ok-number.ensures;
    }

pub returns : goal.returns
returns g c =
    let held = c.loop-number.invariant in
    let all : take c.loop-number.number-index c.loop-number.number-items ≡ c.loop-number.number-items = take_all c.loop-number.number-index c.loop-number.number-items (omega (arith, held.size)) in
    held.words ∙ ap (λ ns. map decimal ns ++ words_left c.loop-number.self.rest) all
