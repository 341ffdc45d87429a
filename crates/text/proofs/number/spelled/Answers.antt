use Rattle.std.proofs.Common.{◌≡◌, ◌≤◌, ◌∙◌, true, sym, length, get_or, arith, rules}
use Rattle.std.specs.Char.{is_ascii_digit}
use Rattle.std.specs.List.{list_all}
use Rattle.text.proofs.Spelling.{spells_none, spells_no_zero, spelled_parse, digits_are_text}
use Rattle.text.proofs.number.spelled.Goals as goal
use Rattle.text.proofs.number.spelled.Goals.{then-not-all_digits-via-then-not-all_digits, then-not-all_digits-via-else-not-all_digits+then-has_needless_zero}

pub returns-then-not-all_digits : goal.returns-then-not-all_digits
returns-then-not-all_digits c = λ n small. elim c.then-not-all_digits.branch [
  | then-not-all_digits-via-then-not-all_digits w ↦ spells_none c.args.bytes.now n small (grind (arith, c.all_digits.ensures, w.if-not-all_digits))
  | then-not-all_digits-via-else-not-all_digits+then-has_needless_zero w ↦ let h = w.has_needless_zero.ensures in spells_no_zero c.args.bytes.now n small (grind (arith, h)) (grind (arith, h))
]

pub returns-in_err-ok : goal.returns-in_err-ok
returns-in_err-ok c = absurd (digits_are_text c.args.bytes.now c.from_utf8.result _ _ (grind (arith, c.all_digits.ensures, c.if-not-all_digits.false)) c.from_utf8.ensures.cases (sym c.ok.ensures.value ∙ c.in_err-ok.was))

pub returns : goal.returns
returns c =
    let digits : list_all is_ascii_digit c.args.bytes.now ≡ true = grind (arith, c.all_digits.ensures, c.if-not-all_digits.false) in
    let same : c.in_ok-ok.field-0.now ≡ c.args.bytes.now = search rules in
    let alone : get_or c.args.bytes.now 0 0 ≡ 48 → length c.args.bytes.now ≤ 1 = λ z. grind (arith, c.has_needless_zero.ensures, c.if-has_needless_zero.false) in
    rw c.ok-2.ensures.value (spelled_parse c.args.bytes.now c.parse.result (rw same at c.parse.ensures.value.0) digits alone)
