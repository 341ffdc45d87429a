use Rattle.std.proofs.Common.{refl, rules, arith}
use Rattle.std.proofs.lemmas.Iterator.{YieldsList-from_range}
use Rattle.std.proofs.lemmas.Iterator.Search.{all_from_yields_List}
use Rattle.model.specs.Acts.{meets_at}
use Rattle.register.specs.Memory.{state_of}
use Rattle.register.proofs.in_force.Register.meets_in.Goals as goal

pub returns : goal.returns
returns g c =
    all_from_yields_List (meets_at (state_of c.args.self.now).held c.args.rule c.args.act.target c.args.act.part) _ _ _ c.all.ensures.ran
    (YieldsList-from_range 0 c.args.self.now.table.sizes.slots c.args.self.now.table.sizes.slots refl (omega arith)) (λ x b q k. search rules)
