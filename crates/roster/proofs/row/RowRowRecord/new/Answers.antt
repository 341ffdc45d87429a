use Rattle.std.proofs.Common.{rules}
use Rattle.roster.proofs.Rows.{no_bit}
use Rattle.roster.proofs.row.RowRowRecord.new.Goals as goal

pub returns : goal.returns
returns c slot role = search (rules, no_bit)
