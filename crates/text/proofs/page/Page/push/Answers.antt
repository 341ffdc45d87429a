use Rattle.std.proofs.Common.{refl, rules}
use Rattle.std.proofs.lemmas.List.{places}
use Rattle.std.proofs.lemmas.Slice.{overwrites}
use Rattle.text.proofs.page.Page.push.Goals as goal

pub returns : goal.returns
returns c = record {
  text = search (rules, overwrites);
  place = refl;
  size = search (rules, places);
  rest = search (rules, overwrites);
  same = refl;
}
