use Rattle.std.proofs.Common.{◌<◌, ◌^◌, ◌++◌, arith, rules, decimal, codes}
use Rattle.text.specs.Pages.{HasRoom}
use Rattle.text.proofs.Writing.{appends_both, ten_digits, two_digits}
use Rattle.text.proofs.reply.Reply.write_text.Goals as goal

pub push_labelled-requires : goal.push_labelled-requires
push_labelled-requires c = grind (arith, ten_digits)

pub push_labelled-requires-in-Bound : goal.push_labelled-requires-in-Bound
push_labelled-requires-in-Bound c =
    let room : HasRoom c.args.page.now 44 = rw c.in-Bound.is at c.requires in
    let code : c.in-Bound.code < 2 ^ 32 = search rules in
    let reached : c.in-Bound.reached < 2 ^ 32 = search rules in
    omega (arith, room, c.push_labelled.ensures.place, c.push_labelled.ensures.size, ten_digits c.in-Bound.code code, ten_digits c.in-Bound.reached reached)

pub push_labelled-requires-in-Never : goal.push_labelled-requires-in-Never
push_labelled-requires-in-Never c = grind (arith, ten_digits)

pub push_labelled-requires-in-Refused : goal.push_labelled-requires-in-Refused
push_labelled-requires-in-Refused c =
    let room : HasRoom c.args.page.now 11 = rw c.in-Refused.is at c.requires in
    rw c.number.ensures (omega (arith, room, two_digits c.in-Refused.refusal))

pub returns-in-Bound-clause-text : goal.returns-in-Bound-clause-text
returns-in-Bound-clause-text c = rw c.in-Bound.is (appends_both c.args.page.now (codes "bound " ++ decimal c.in-Bound.code) c.push_labelled.new.self (codes " reached " ++ decimal c.in-Bound.reached) c.push_labelled-in-Bound.new.self c.push_labelled.ensures c.push_labelled-in-Bound.ensures)

pub returns-in-Bound-clause-place : goal.returns-in-Bound-clause-place
returns-in-Bound-clause-place c =
    let code : c.in-Bound.code < 2 ^ 32 = search rules in
    let reached : c.in-Bound.reached < 2 ^ 32 = search rules in
    rw c.in-Bound.is (omega (arith, c.push_labelled.ensures.place, c.push_labelled-in-Bound.ensures.place, ten_digits c.in-Bound.code code, ten_digits c.in-Bound.reached reached))

pub returns-in-Never-clause-text : goal.returns-in-Never-clause-text
returns-in-Never-clause-text c = rw c.in-Never.is c.push_labelled-in-Never.ensures

pub returns-in-Never-clause-place : goal.returns-in-Never-clause-place
returns-in-Never-clause-place c = grind (arith, ten_digits)

pub returns-in-Refused-clause-place : goal.returns-in-Refused-clause-place
returns-in-Refused-clause-place c = grind (arith, two_digits)
