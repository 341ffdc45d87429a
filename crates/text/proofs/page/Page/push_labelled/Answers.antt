use Rattle.std.proofs.Common.{decimal}
use Rattle.text.proofs.Writing.{appends_both}
use Rattle.text.proofs.page.Page.push_labelled.Goals as goal

pub returns : goal.returns
returns c = appends_both c.args.self.now c.args.label.now c.push.new.self (decimal c.args.number) c.push_number.new.self c.push.ensures c.push_number.ensures
