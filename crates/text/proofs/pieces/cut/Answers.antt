use Rattle.std.proofs.Common.{sym, ◌∙◌, arith}
use Rattle.std.proofs.lemmas.Grind.{common_steps}
use Rattle.text.proofs.Cutting.{cut_there, uncut}
use Rattle.text.proofs.pieces.cut.Goals as goal

pub returns-in-Some-clause-front : goal.returns-in-Some-clause-front
returns-in-Some-clause-front c = sym (cut_there c.args.separator c.args.bytes.now c.in-Some.at (sym c.place_of.ensures ∙ c.in-Some.is)).0

pub returns-in-Some-clause-behind : goal.returns-in-Some-clause-behind
returns-in-Some-clause-behind c = let p = (cut_there c.args.separator c.args.bytes.now c.in-Some.at (sym c.place_of.ensures ∙ c.in-Some.is)).1 in grind (arith, common_steps, p)

pub returns-in-None-clause-front : goal.returns-in-None-clause-front
returns-in-None-clause-front c = sym (uncut c.args.separator c.args.bytes.now (sym c.place_of.ensures ∙ c.in-None.is)).0

pub returns-in-None-clause-behind : goal.returns-in-None-clause-behind
returns-in-None-clause-behind c = sym (uncut c.args.separator c.args.bytes.now (sym c.place_of.ensures ∙ c.in-None.is)).1
