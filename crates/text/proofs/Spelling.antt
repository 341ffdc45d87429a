-- Which bytes spell a number.
use Rattle.std.proofs.Common.{◌≡◌, ◌≢◌, ℕ, zero, suc, ◌<◌, ◌≤◌, ◌^◌, true, false, List, length, get_or, ◌∙◌, ap, subst, arith, rules, decimal, Result, Ok, Err, MatchOption, MatchResult, None}
use Rattle.std.specs.Borrow.{Bor}
use Rattle.std.specs.Char.{is_ascii_digit}
use Rattle.std.specs.List.{list_all}
use Rattle.std.specs.Result.{result_ok}
use Rattle.std.specs.Str.{IsUtf8}
use Rattle.std.specs.Str.Parse.{ParsesUnsigned, digits_value}
use Rattle.std.proofs.lemmas.Str.Parse.{IsNumeralModel, numerals_by_value, parse_digits}
use Rattle.std.proofs.lemmas.Str.{IsUtf8-from_ascii}
use Rattle.std.proofs.lemmas.Fmt.{digits_decimal, digits_value-decimal, first_decimal, decimal_digit, decimal_nonempty, decimal-digits_value, IsAscii-from_digits}

abbrev AreDigits : List ℕ → Type 0
AreDigits bs = list_all is_ascii_digit bs ≡ true

own : IsNumeralModel AreDigits (digits_value 10)
own = numerals_by_value AreDigits (search rules)

-- what is not only digits spells no number
pub spells_none : (bs : List ℕ) (n : ℕ) → n < 2 ^ 32 → list_all is_ascii_digit bs ≡ false → decimal n ≢ bs
spells_none bs n small other e = let d = digits_decimal own n (omega arith) in let f = subst AreDigits e d in cc

-- nor does what has a needless zero
pub spells_no_zero : (bs : List ℕ) (n : ℕ) → n < 2 ^ 32 → 1 < length bs → get_or bs 0 0 ≡ 48 → decimal n ≢ bs
spells_no_zero bs zero small more z e = let one : length (decimal zero) ≡ 1 = ap length (decimal_digit zero (omega arith)) in omega (arith, one, ap length e)
spells_no_zero bs (suc n) small more z e = let f = first_decimal (suc n) (omega arith) (omega arith) in omega (arith, f, z, ap (λ xs. get_or xs 0 0) e)

-- what parses, or does not, where there are only digits and no needless zero
pub spelled_parse : {E : Type 0} (bs : List ℕ) (r : Result ℕ E) → ParsesUnsigned 32 10 bs r → list_all is_ascii_digit bs ≡ true → (get_or bs 0 0 ≡ 48 → length bs ≤ 1) → MatchOption (result_ok r) ((n : ℕ) → n < 2 ^ 32 → decimal n ≢ bs) (λ n. decimal n ≡ bs)
spelled_parse {E} bs (Ok n) h p zero_alone =
    let q = parse_digits own {E = E} 32 bs (Ok n) h p in
    let e : decimal (digits_value 10 bs) ≡ bs = decimal-digits_value own bs p q.0.0 (λ z. omega (arith, zero_alone z, q.0.0)) (omega (arith, q.0.1)) in
    ap decimal q.1 ∙ e
spelled_parse {E} bs (Err x) h p zero_alone =
    let q = parse_digits own {E = E} 32 bs (Err x) h p in
    λ n small e. q (subst (λ xs. 0 < length xs) e (decimal_nonempty n (omega arith)), subst (λ xs. digits_value 10 xs < 2 ^ 32) e (rw (digits_value-decimal own n (omega arith)) small))

-- digits are text, so reading them as text never fails
pub digits_are_text : {X E : Type 0} (bs : List ℕ) (r : Result (Bor X) E) (P : Bor X → Type 0) (Q : E → Type 0) → list_all is_ascii_digit bs ≡ true → MatchResult r P (λ e. ¬ (IsUtf8 bs) × Q e) → result_ok r ≡ None → ⊥
digits_are_text bs (Ok x) P Q p h e = cc
digits_are_text bs (Err x) P Q p h e = h.0 (IsUtf8-from_ascii bs (IsAscii-from_digits bs (own.to bs p)))
