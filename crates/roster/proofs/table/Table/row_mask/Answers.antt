use Rattle.std.proofs.Common.{rules, arith}
use Rattle.std.proofs.lemmas.Bool.Decides.{nat_tests}
use Rattle.std.proofs.lemmas.Grind.{common_steps}
use Rattle.std.proofs.lemmas.Option.{gets}
use Rattle.roster.proofs.Masks.{is_mask}
use Rattle.roster.proofs.table.Table.row_mask.Goals as goal

pub returns : goal.returns
returns g c =
    is_mask _ c.args.row c.args.slot c.mask.result (search rules)
    (λ role l. grind (arith, common_steps, gets, nat_tests, c.mask.ensures role l))
