-- Masks and schedules: numbers whose bits stand for roles or slots. Assumes nothing.
use Rattle.std.specs.Prelude.{◌≡◌, ℕ, ◌/◌, ◌%◌, ◌^◌, Bool, true, false, not, ◌==◌, bit_and}

-- whether bit i of m is set, bit 0 the least
unfoldable pub bit : ℕ → ℕ → Bool
bit m i = (m / 2 ^ i) % 2 == 1

-- every bit of a is in b
abbrev pub Inside : ℕ → ℕ → Type 0
Inside a b = (i : ℕ) → bit a i ≡ true → bit b i ≡ true

-- no bit of a is in b
abbrev pub Apart : ℕ → ℕ → Type 0
Apart a b = (i : ℕ) → bit a i ≡ true → bit b i ≡ false

-- some bit is in both
abbrev pub Shares : ℕ → ℕ → Type 0
Shares a b = (i : ℕ) × (bit a i ≡ true) × (bit b i ≡ true)

-- the same three as tests of words
abbrev pub inside : ℕ → ℕ → Bool
inside a b = bit_and a b == a

abbrev pub apart : ℕ → ℕ → Bool
apart a b = bit_and a b == 0

abbrev pub shares : ℕ → ℕ → Bool
shares a b = not (apart a b)
