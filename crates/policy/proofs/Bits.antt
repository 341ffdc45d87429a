-- Laws of the bits of words. Assumes nothing.
use Rattle.std.proofs.Common.{◌≡◌, ℕ, zero, suc, ◌+◌, ◌-◌, ◌*◌, ◌/◌, ◌%◌, ◌^◌, ◌<◌, ◌≤◌, Bool, true, false, cond, not, ◌&&◌, ◌||◌, eqb, ltb, ◌⊎◌, Decides, sym, refl, ap, ◌∙◌, ap₂, inl, inr, ⊎_elim, pow-suc, div-one, mul-div_cancel, pow_mono, w32, arith}
use native.Mathlib.Nat.{pow-succ', div-div-eq-div-mul, mul-mod_left, mod-le}
use Rattle.std.proofs.Math.Nat.{mod-eq_of_lt}
use lib.Bits.{bit_and, bit_or, bit_xor, and_shr, and_mod, or_shr, or_mod, xor_shr, xor_mod, and_le_l}
use Rattle.std.specs.Int.{bit_not}
use Rattle.std.proofs.lemmas.Bool.{eqb-true, eqb-false, eq-eqb, ne_eqb, lt-ltb, le-ltb, cases_lt, true≢false, false≢true, and_parts, and_from}
use Rattle.std.proofs.lemmas.Nat.Bits.{bit_at_not}
use Rattle.std.proofs.lemmas.Nat.{one_shl, pow_pos, mod_below, div_below, le-div, div-add-mod', mod-mul-add, div-mul-add, and_mask}
use Rattle.std.proofs.lemmas.Bool.Decides.{nat_tests}
use Rattle.policy.specs.Masks.{bit, Inside, Apart, Shares, inside, apart, shares}

-- a digit of two is 0 or 1
digit : (m : ℕ) → (m % 2 ≡ 0) ⊎ (m % 2 ≡ 1)
digit m = ⊎_elim (λ h. inl (omega arith)) (λ h. inr (omega (arith, mod_below m 2 (omega arith)))) (cases_lt (m % 2) 1)

-- bit 0, and the others by the half
pub bit-zero : (m : ℕ) → bit m 0 ≡ eqb (m % 2) 1
unfolding bit
bit-zero m = ap (λ (x : ℕ). eqb (x % 2) 1) (div-one m)

pub bit-suc : (m i : ℕ) → bit m (suc i) ≡ bit (m / 2) i
unfolding bit
bit-suc m i =
    ap (λ (x : ℕ). eqb (x % 2) 1) (ap (λ (x : ℕ). m / x) (pow-succ' 2 i) ∙ sym (div-div-eq-div-mul m 2 (2 ^ i)))

-- no bit of 0 is set
pub bit_none : (i : ℕ) → bit 0 i ≡ false
bit_none zero = bit-zero 0
bit_none (suc i) = bit-suc 0 i ∙ bit_none i

told : (b : Bool) → eqb (cond b 1 0) 1 ≡ b
told true = refl
told false = refl

-- an operation on words that goes digit by digit, as g goes on tests
module _ (op : ℕ → ℕ → ℕ) (g : Bool → Bool → Bool)
    (shr : (a b k : ℕ) → op a b / 2 ^ k ≡ op (a / 2 ^ k) (b / 2 ^ k))
    (low : (a b k : ℕ) → op a b % 2 ^ k ≡ op (a % 2 ^ k) (b % 2 ^ k))
    (none : op 0 0 ≡ cond (g false false) 1 0) (right : op 0 1 ≡ cond (g false true) 1 0)
    (left : op 1 0 ≡ cond (g true false) 1 0) (both : op 1 1 ≡ cond (g true true) 1 0) where
  at_digits : (x y a b : ℕ) → x % 2 ≡ a → y % 2 ≡ b → op a b ≡ cond (g (eqb a 1) (eqb b 1)) 1 0
      → eqb (op x y % 2) 1 ≡ g (eqb (x % 2) 1) (eqb (y % 2) 1)
  at_digits x y a b p q h =
      ap (λ (z : ℕ). eqb z 1) (low x y 1 ∙ ap₂ op p q ∙ h) ∙ told (g (eqb a 1) (eqb b 1)) ∙ sym (ap₂ (λ (u v : ℕ). g (eqb u 1) (eqb v 1)) p q)

  digit_of : (x y : ℕ) → eqb (op x y % 2) 1 ≡ g (eqb (x % 2) 1) (eqb (y % 2) 1)
  digit_of x y =
      ⊎_elim
      (λ p. ⊎_elim (λ q. at_digits x y 0 0 p q none) (λ q. at_digits x y 0 1 p q right) (digit y))
      (λ p. ⊎_elim (λ q. at_digits x y 1 0 p q left) (λ q. at_digits x y 1 1 p q both) (digit y)) (digit x)

  bit_of : (a b i : ℕ) → bit (op a b) i ≡ g (bit a i) (bit b i)
  unfolding bit
  bit_of a b i = ap (λ (x : ℕ). eqb (x % 2) 1) (shr a b i) ∙ digit_of (a / 2 ^ i) (b / 2 ^ i)

pub bit-and : (a b i : ℕ) → bit (bit_and a b) i ≡ (bit a i && bit b i)
bit-and = bit_of bit_and ◌&&◌ and_shr and_mod refl refl refl refl

pub bit-or : (a b i : ℕ) → bit (bit_or a b) i ≡ (bit a i || bit b i)
bit-or = bit_of bit_or ◌||◌ or_shr or_mod refl refl refl refl

abbrev differs : Bool → Bool → Bool
differs true b = not b
differs false b = b

pub bit-xor : (a b i : ℕ) → bit (bit_xor a b) i ≡ differs (bit a i) (bit b i)
bit-xor = bit_of bit_xor differs xor_shr xor_mod refl refl refl refl

eqb-suc : (i k : ℕ) → eqb i k ≡ eqb (suc i) (suc k)
eqb-suc i k = grind (arith, nat_tests)

ltb-suc : (i k : ℕ) → ltb i k ≡ ltb (suc i) (suc k)
ltb-suc i k = grind (arith, nat_tests)

-- the word with one bit
pub bit_pow : (k i : ℕ) → bit (2 ^ k) i ≡ eqb i k
bit_pow zero zero = bit-zero 1
bit_pow zero (suc i) = bit-suc 1 i ∙ bit_none i ∙ sym (ne_eqb (suc i) 0 (λ e. omega arith))
bit_pow (suc k) zero =
    bit-zero (2 ^ suc k) ∙ ap (λ (x : ℕ). eqb x 1) (ap (λ (x : ℕ). x % 2) (pow-suc 2 k) ∙ mul-mod_left (2 ^ k) 2)
    ∙ sym (ne_eqb 0 (suc k) (λ e. omega arith))
bit_pow (suc k) (suc i) =
    bit-suc (2 ^ suc k) i ∙ ap (λ (x : ℕ). bit x i) (ap (λ (x : ℕ). x / 2) (pow-suc 2 k) ∙ mul-div_cancel (2 ^ k) (omega arith))
    ∙ bit_pow k i ∙ eqb-suc i k

-- the same word as a shift makes it
pub bit_one_shifted : (k i : ℕ) → k < 32 → bit (1 * 2 ^ k % 2 ^ 32) i ≡ eqb i k
bit_one_shifted k i h = ap (λ (one : ℕ). bit one i) (one_shl k 32 h) ∙ bit_pow k i

half_below : (n m : ℕ) → m < 2 ^ suc n → m / 2 < 2 ^ n
half_below n m h = div_below m 2 (2 ^ n) (omega arith) (omega (arith, pow-suc 2 n))

-- a word below 2 ^ n has no bit from n on
pub bit_past : (n m i : ℕ) → m < 2 ^ n → n ≤ i → bit m i ≡ false
bit_past zero m i h l = ap (λ (x : ℕ). bit x i) (omega arith) ∙ bit_none i
bit_past (suc n) m zero h l = absurd (omega arith)
bit_past (suc n) m (suc i) h l = bit-suc m i ∙ bit_past n (m / 2) i (half_below n m h) (omega arith)

same_digit : (a b : ℕ) → eqb (a % 2) 1 ≡ eqb (b % 2) 1 → a % 2 ≡ b % 2
same_digit a b e =
    ⊎_elim
    (λ p. ⊎_elim (λ q. p ∙ sym q) (λ q. absurd (false≢true (sym (ap (λ (x : ℕ). eqb x 1) p) ∙ e ∙ ap (λ (x : ℕ). eqb x 1) q))) (digit b))
    (λ p. ⊎_elim (λ q. absurd (true≢false (sym (ap (λ (x : ℕ). eqb x 1) p) ∙ e ∙ ap (λ (x : ℕ). eqb x 1) q))) (λ q. p ∙ sym q) (digit b)) (digit a)

-- words with the same bits are the same
pub same_bits : (n a b : ℕ) → a < 2 ^ n → b < 2 ^ n → ((i : ℕ) → i < n → bit a i ≡ bit b i) → a ≡ b
same_bits zero a b ha hb h = omega arith
same_bits (suc n) a b ha hb h =
    let halves : a / 2 ≡ b / 2 = same_bits n (a / 2) (b / 2) (half_below n a ha) (half_below n b hb) (λ i l. sym (bit-suc a i) ∙ h (suc i) (omega arith) ∙ bit-suc b i) in
    let lows : a % 2 ≡ b % 2 = same_digit a b (sym (bit-zero a) ∙ h 0 (omega arith) ∙ bit-zero b) in
    omega (arith, div-add-mod' a 2, div-add-mod' b 2)

-- the tests of words are what they stand for
and_inside : (x y : Bool) → (x && y) ≡ x → x ≡ true → y ≡ true
and_inside true y e h = e
and_inside false y e h = absurd (false≢true h)

inside_and : (x y : Bool) → (x ≡ true → y ≡ true) → (x && y) ≡ x
inside_and true y h = h refl
inside_and false y h = refl

and_apart : (x y : Bool) → (x && y) ≡ false → x ≡ true → y ≡ false
and_apart true y e h = e
and_apart false y e h = absurd (false≢true h)

apart_and : (x y : Bool) → (x ≡ true → y ≡ false) → (x && y) ≡ false
apart_and true y h = h refl
apart_and false y h = refl

pub inside_decides : (n a b : ℕ) → a < 2 ^ n → Decides (inside a b) (Inside a b)
inside_decides n a b h = (
  λ e i. and_inside (bit a i) (bit b i) (sym (bit-and a b i) ∙ ap (λ (x : ℕ). bit x i) (eqb-true (bit_and a b) a e)),
  λ f. eq-eqb (bit_and a b) a
      (same_bits n (bit_and a b) a (omega (arith, and_le_l a b)) h (λ i l. bit-and a b i ∙ inside_and (bit a i) (bit b i) (f i))),
)

pub apart_decides : (n a b : ℕ) → a < 2 ^ n → Decides (apart a b) (Apart a b)
apart_decides n a b h = (
  λ e i. and_apart (bit a i) (bit b i) (sym (bit-and a b i) ∙ ap (λ (x : ℕ). bit x i) (eqb-true (bit_and a b) 0 e) ∙ bit_none i),
  λ f. eq-eqb (bit_and a b) 0
      (same_bits n (bit_and a b) 0 (omega (arith, and_le_l a b)) (pow_pos n) (λ i l. bit-and a b i ∙ apart_and (bit a i) (bit b i) (f i) ∙ sym (bit_none i))),
)

-- what is left of a word past its bits is 0
pub shifted_out : (w k : ℕ) → eqb (w / 2 ^ k) 0 ≡ ltb w (2 ^ k)
shifted_out w k =
    ⊎_elim
    (λ h. eq-eqb (w / 2 ^ k) 0 (omega (arith, div_below w (2 ^ k) 1 (pow_pos k) (omega arith))) ∙ sym (lt-ltb w (2 ^ k) h))
    (λ h. ne_eqb (w / 2 ^ k) 0 (λ e. omega (arith, le-div 1 w (2 ^ k) (pow_pos k) (omega arith))) ∙ sym (le-ltb w (2 ^ k) h))
    (cases_lt w (2 ^ k))

-- a word of 32 bits has none from 32 on
pub bit_past_word : (w k : ℕ) → w < 2 ^ 32 → 32 ≤ k → bit w k ≡ false
bit_past_word w k h l = bit_past 32 w k h l

pub below_wide : (w k : ℕ) → w < 2 ^ 32 → 32 ≤ k → ltb w (2 ^ k) ≡ true
below_wide w k h l = let wide : 2 ^ 32 ≤ 2 ^ k = pow_mono l in lt-ltb w (2 ^ k) (omega arith)

-- a part set in a word, and cleared from it
or_part : (x y : Bool) → (x || y) ≡ cond y true x
or_part true true = refl
or_part true false = refl
or_part false true = refl
or_part false false = refl

pub bit_part_set : (word part i : ℕ) → bit (bit_or word part) i ≡ cond (bit part i) true (bit word i)
bit_part_set word part i = bit-or word part i ∙ or_part (bit word i) (bit part i)

and_not_part : (x y : Bool) → (x && not y) ≡ cond y false x
and_not_part true true = refl
and_not_part true false = refl
and_not_part false true = refl
and_not_part false false = refl

turned : (d : ℕ) → d < 2 → eqb (1 - d) 1 ≡ not (eqb d 1)
turned d h = grind (arith, nat_tests)

bit_turned : (part i : ℕ) → part < 2 ^ 32 → i < 32 → bit (bit_not w32 part) i ≡ not (bit part i)
unfolding bit
bit_turned part i h l =
    ap (λ (d : ℕ). eqb d 1) (bit_at_not w32 part i h l) ∙ turned (part / 2 ^ i % 2) (mod_below (part / 2 ^ i) 2 (omega arith))

pub bit_part_cleared : (word part i : ℕ) → word < 2 ^ 32 → part < 2 ^ 32
    → bit (bit_and word (bit_not w32 part)) i ≡ cond (bit part i) false (bit word i)
bit_part_cleared word part i hw hp =
    bit-and word (bit_not w32 part) i
    ∙ ⊎_elim
    (λ l. ap (λ (b : Bool). bit word i && b) (bit_turned part i hp l) ∙ and_not_part (bit word i) (bit part i))
    (λ l. let past : bit word i ≡ false = bit_past 32 word i hw l in grind (arith, nat_tests))
    (cases_lt i 32)

-- one bit set in a word, and cleared again
pub bit_set : (m k i : ℕ) → bit (bit_or m (2 ^ k)) i ≡ cond (eqb i k) true (bit m i)
bit_set m k i = bit_part_set m (2 ^ k) i ∙ ap (λ (b : Bool). cond b true (bit m i)) (bit_pow k i)

cleared_one : (x y : Bool) → differs (x || y) y ≡ cond y false x
cleared_one true true = refl
cleared_one true false = refl
cleared_one false true = refl
cleared_one false false = refl

pub bit_cleared : (m k i : ℕ) → bit (bit_xor (bit_or m (2 ^ k)) (2 ^ k)) i ≡ cond (eqb i k) false (bit m i)
bit_cleared m k i =
    bit-xor (bit_or m (2 ^ k)) (2 ^ k) i ∙ ap₂ differs (bit-or m (2 ^ k) i ∙ ap (λ (y : Bool). bit m i || y) (bit_pow k i)) (bit_pow k i)
    ∙ cleared_one (bit m i) (eqb i k)

-- the word of all bits below k
odd_ones : (k : ℕ) → 2 ^ suc k - 1 ≡ (2 ^ k - 1) * 2 + 1
odd_ones k = omega (arith, pow-suc 2 k, pow_pos k)

pub bit_ones : (k i : ℕ) → bit (2 ^ k - 1) i ≡ ltb i k
bit_ones zero i = bit_none i ∙ sym (le-ltb i 0 (omega arith))
bit_ones (suc k) zero =
    bit-zero (2 ^ suc k - 1) ∙ ap (λ (x : ℕ). eqb x 1) (ap (λ (x : ℕ). x % 2) (odd_ones k) ∙ mod-mul-add (2 ^ k - 1) 2 1 (omega arith))
    ∙ sym (lt-ltb 0 (suc k) (omega arith))
bit_ones (suc k) (suc i) =
    bit-suc (2 ^ suc k - 1) i ∙ ap (λ (x : ℕ). bit x i) (ap (λ (x : ℕ). x / 2) (odd_ones k) ∙ div-mul-add (2 ^ k - 1) 2 1 (omega arith))
    ∙ bit_ones k i ∙ ltb-suc i k

-- the low bits of a word
pub bit_low : (m k i : ℕ) → bit (m % 2 ^ k) i ≡ (bit m i && ltb i k)
bit_low m k i =
    ap (λ (x : ℕ). bit x i) (sym (and_mask m k)) ∙ bit-and m (2 ^ k - 1) i ∙ ap (λ (b : Bool). bit m i && b) (bit_ones k i)

-- a word inside the word of all bits below k
pub inside_ones : (k m : ℕ) → inside m (2 ^ k - 1) ≡ ltb m (2 ^ k)
inside_ones k m =
    ⊎_elim
    (λ h. eq-eqb (bit_and m (2 ^ k - 1)) m (and_mask m k ∙ mod-eq_of_lt h) ∙ sym (lt-ltb m (2 ^ k) h))
    (λ h. ne_eqb (bit_and m (2 ^ k - 1)) m (λ e. omega (arith, and_mask m k, mod_below m (2 ^ k) (pow_pos k))) ∙ sym (le-ltb m (2 ^ k) h))
    (cases_lt m (2 ^ k))

-- a word whose bits all lie below n
pub below_from_bits : (n k m : ℕ) → m < 2 ^ n → ((i : ℕ) → bit m i ≡ true → i < k) → m < 2 ^ k
below_from_bits n k m h low =
    let same : m % 2 ^ k ≡ m = same_bits n (m % 2 ^ k) m (omega (arith, mod-le m (2 ^ k))) h (λ i l. bit_low m k i ∙ kept i (bit m i) refl) in
    omega (arith, mod_below m (2 ^ k) (pow_pos k))
  where
    kept : (i : ℕ) (b : Bool) → bit m i ≡ b → (b && ltb i k) ≡ b
    kept i true e = lt-ltb i k (low i e)
    kept i false e = refl

-- a word that has, from k on, the bits of a word below 2 ^ k, which are none
pub below_from_same_bits : (n k m a : ℕ) → m < 2 ^ n → a < 2 ^ k → ((i : ℕ) → k ≤ i → bit m i ≡ bit a i) → m < 2 ^ k
below_from_same_bits n k m a h l same =
    below_from_bits n k m h
    (λ i e. ⊎_elim (λ p. p) (λ p. absurd (false≢true (sym (same i p ∙ bit_past k a i l p) ∙ e))) (cases_lt i k))

-- a word that is not 0 has a bit
pub some_bit : (n m : ℕ) → m < 2 ^ n → (m ≡ 0 → ⊥) → (i : ℕ) × (bit m i ≡ true)
some_bit zero m h ne = absurd (ne (omega arith))
some_bit (suc n) m h ne =
    ⊎_elim
    (λ even. next (some_bit n (m / 2) (half_below n m h) (λ e. ne (omega (arith, div-add-mod' m 2, e, even)))))
    (λ odd. (0, bit-zero m ∙ ap (λ (x : ℕ). eqb x 1) odd)) (digit m)
  where
    next : (i : ℕ) × (bit (m / 2) i ≡ true) → (i : ℕ) × (bit m i ≡ true)
    next found = (suc found.0, bit-suc m found.0 ∙ found.1)

not_twice : (b : Bool) → not b ≡ true → b ≡ false
not_twice true h = sym h
not_twice false h = refl

pub shares_decides : (n a b : ℕ) → a < 2 ^ n → Decides (shares a b) (Shares a b)
shares_decides n a b h = (found, told)
  where
    found : shares a b ≡ true → Shares a b
    found e =
        let one = some_bit n (bit_and a b) (omega (arith, and_le_l a b)) (eqb-false (bit_and a b) 0 (not_twice (apart a b) e)) in
        let both = and_parts (bit a one.0) (bit b one.0) (sym (bit-and a b one.0) ∙ one.1) in
        (one.0, both.0, both.1)

    told : Shares a b → shares a b ≡ true
    told shared =
        ap not (ne_eqb (bit_and a b) 0 (λ e. false≢true (sym (ap (λ (x : ℕ). bit x shared.0) e ∙ bit_none shared.0) ∙ bit-and a b shared.0 ∙ and_from (bit a shared.0) (bit b shared.0) shared.1 shared.2)))

-- a bit as the shifted word shows it
pub bit_read : (m k : ℕ) → eqb (bit_and (m / 2 ^ k) 1) 1 ≡ bit m k
unfolding bit
bit_read m k = ap (λ (x : ℕ). eqb x 1) (and_mask (m / 2 ^ k) 1)

-- a number has fewer bits than itself
pub own_power : (n : ℕ) → n < 2 ^ n
own_power zero = omega arith
own_power (suc n) = omega (arith, own_power n, pow-suc 2 n)
