use Rattle.std.proofs.Common.{◌≡◌, ◌∷◌, ◌∙◌, arith}
use Rattle.text.specs.Pieces.{words_left}
use Rattle.text.specs.Words.{part_of}
use Rattle.text.proofs.Cutting.{words_next}
use Rattle.text.proofs.line.LineIterator.next.Goals as goal

steps : (c : goal.After-of) → words_left c.args.self.now.rest ≡ part_of c.of.result ∷ words_left c.cut.result.1
steps c = rw c.in_ok-self.was (words_next c.in_ok-self.field-0.now c.cut.result.1 (part_of c.of.result) (c.of.ensures.part ∙ c.cut.ensures.front) c.cut.ensures.behind)

pub returns-clause-steps : goal.returns-clause-steps
returns-clause-steps c = steps c

pub returns-clause-goes : goal.returns-clause-goes
returns-clause-goes c = grind (arith, steps c)
