-- Sums of powers of two as words: their bits are the tests they were made of. Assumes nothing.
use Rattle.std.proofs.Common.{◌≡◌, ℕ, zero, suc, ◌+◌, ◌^◌, ◌<◌, Bool, true, false, cond, eqb, sym, refl, ap, ◌∙◌, pow-suc, one-mul, arith}
use Rattle.std.proofs.lemmas.Bool.{eqb-true, eqb-false, cond_both}
use Rattle.std.specs.Int.Bits.{bit_or, or_shifted_r}
use Rattle.policy.specs.Masks.{bit}
use Rattle.policy.proofs.Bits.{bit_set, bit_past, same_bits}
use Rattle.roster.specs.Holdings.{Held, sum_of, mask}

one_more : (n a : ℕ) (b : Bool) → a < 2 ^ n → a + cond b (2 ^ n) 0 < 2 ^ suc n
one_more n a true h = omega (arith, pow-suc 2 n)
one_more n a false h = omega (arith, pow-suc 2 n)

-- a sum over the i below n is a word of n bits
pub sum_of_below : (n : ℕ) (test : ℕ → Bool) → sum_of n test < 2 ^ n
sum_of_below zero test = omega arith
sum_of_below (suc n) test = one_more n (sum_of n test) (test n) (sum_of_below n test)

-- a word of n bits with 2 ^ n added or not
added : (n a : ℕ) (b : Bool) (i : ℕ) → a < 2 ^ n → bit (a + cond b (2 ^ n) 0) i ≡ cond (eqb i n) b (bit a i)
added n a true i h =
    let joined : bit_or a (2 ^ n) ≡ 2 ^ n + a = simp one-mul at (or_shifted_r 1 n a h) in
    ap (λ (m : ℕ). bit m i) (omega arith) ∙ bit_set a n i
added n a false i h =
    ap (λ (m : ℕ). bit m i) (omega arith)
    ∙ cond_both (eqb i n) false (bit a i) (λ b. bit a i ≡ b) (λ e. bit_past n a i h (omega (arith, eqb-true i n e))) (λ e. refl)

-- bit i of a sum over the i below n is the test at i
pub bit_sum_of : (n : ℕ) (test : ℕ → Bool) (i : ℕ) → i < n → bit (sum_of n test) i ≡ test i
bit_sum_of zero test i h = absurd (omega arith)
bit_sum_of (suc n) test i h =
    added n (sum_of n test) (test n) i (sum_of_below n test)
    ∙ cond_both (eqb i n) (test n) _ (λ b. b ≡ test i)
    (λ e. ap test (sym (eqb-true i n e))) (λ e. bit_sum_of n test i (omega (arith, eqb-false i n e)))

-- a word of n bits is the sum over any test that agrees with its bits
pub is_sum_of : (n m : ℕ) (test : ℕ → Bool) → m < 2 ^ n → ((i : ℕ) → i < n → bit m i ≡ test i) → m ≡ sum_of n test
is_sum_of n m test h bits =
    same_bits n m (sum_of n test) h (sum_of_below n test) (λ i l. bits i l ∙ sym (bit_sum_of n test i l))

-- tests that agree below n have the same sum
pub same_sum_of : (n : ℕ) (f g : ℕ → Bool) → ((i : ℕ) → i < n → f i ≡ g i) → sum_of n f ≡ sum_of n g
same_sum_of n f g same =
    is_sum_of n (sum_of n f) g (sum_of_below n f) (λ i l. bit_sum_of n f i l ∙ same i l)

-- the same of the mask of a row in a slot
pub mask_below : (held : Held) (row slot : ℕ) → mask held row slot < 2 ^ 16
unfolding mask
mask_below held row slot = sum_of_below 16 (held row slot)

pub bit_mask : (held : Held) (row slot role : ℕ) → role < 16 → bit (mask held row slot) role ≡ held row slot role
unfolding mask
bit_mask held row slot role h = bit_sum_of 16 (held row slot) role h

pub is_mask : (held : Held) (row slot m : ℕ) → m < 2 ^ 16 → ((i : ℕ) → i < 16 → bit m i ≡ held row slot i) → m ≡ mask held row slot
unfolding mask
is_mask held row slot m h bits = is_sum_of 16 m (held row slot) h bits

pub same_mask : (f g : Held) (row slot : ℕ) → ((i : ℕ) → i < 16 → f row slot i ≡ g row slot i) → mask f row slot ≡ mask g row slot
unfolding mask
same_mask f g row slot same = same_sum_of 16 (f row slot) (g row slot) same
