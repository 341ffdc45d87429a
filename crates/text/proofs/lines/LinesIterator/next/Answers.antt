use Rattle.std.proofs.Common.{◌≡◌, ◌∷◌, refl, arith}
use Rattle.text.specs.Pieces.{lines_of}
use Rattle.text.proofs.Cutting.{lines_next}
use Rattle.text.proofs.lines.LinesIterator.next.Goals as goal

steps : (c : goal.After-self-1) → lines_of c.args.self.now.0.now ≡ c.cut.result.0.now ∷ lines_of c.unwrap_or-self.result.now
steps c = lines_next c.args.self.now.0.now c.cut.result.1 c.cut.result.0.now c.unwrap_or-self.result _ (grind (arith, c.if-is_empty.ensures)) c.cut.ensures.front c.cut.ensures.behind refl c.unwrap_or-self.ensures

pub returns-clause-steps : goal.returns-clause-steps
returns-clause-steps c = steps c

pub returns-clause-goes : goal.returns-clause-goes
returns-clause-goes c = grind (arith, steps c)
