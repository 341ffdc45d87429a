use Rattle.std.proofs.Common.{◌^◌, ◌<◌, rules, arith}
use Rattle.std.proofs.lemmas.Bool.Decides.{nat_tests}
use Rattle.std.proofs.lemmas.Grind.{common_steps}
use Rattle.std.proofs.lemmas.Option.{gets}
use Rattle.policy.proofs.Bits.{bit_past}
use Rattle.roster.proofs.Tables.{same_held}
use Rattle.roster.proofs.table.Table.change_row.Goals as goal

pub returns-clause-meaning : goal.returns-clause-meaning
returns-clause-meaning g c =
    let fits : c.args.schedule < 2 ^ 32 = search rules in
    same_held _ _
    (λ row slot role. grind (arith, common_steps, gets, nat_tests, bit_past 32 c.args.schedule slot fits, c.change.ensures slot role))
