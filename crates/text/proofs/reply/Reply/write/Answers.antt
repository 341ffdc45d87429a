use Rattle.std.proofs.Common.{arith}
use Rattle.text.proofs.reply.Reply.write.Goals as goal

pub push-requires : goal.push-requires
push-requires c = omega (arith, c.requires, c.write_text.ensures.place, c.write_text.ensures.text.size)
