-- Tests of every number of a range. Assumes nothing.
use Rattle.std.proofs.Common.{◌≡◌, ℕ, zero, suc, ◌+◌, ◌<◌, ◌≤◌, Bool, true, refl, ap, ◌∙◌, ⊎_elim, arith}
use Rattle.std.specs.List.{list_all, range_with_len}
use Rattle.std.proofs.lemmas.Bool.{cases_eq, and_parts, and_from}

module _ (test : ℕ → Bool) where
  holds_from : (a n : ℕ) → list_all test (range_with_len a n) ≡ true → (k : ℕ) → a ≤ k → k < a + n → test k ≡ true
  holds_from a zero e k low h = absurd (omega arith)
  holds_from a (suc n) e k low h =
      let parts = and_parts (test a) (list_all test (range_with_len (a + 1) n)) e in
      ⊎_elim (λ same. ap test same ∙ parts.0) (λ ne. holds_from (a + 1) n parts.1 k (omega arith) (omega arith)) (cases_eq k a)

  passes_from : (a n : ℕ) → ((k : ℕ) → k < a + n → test k ≡ true) → list_all test (range_with_len a n) ≡ true
  passes_from a zero each = refl
  passes_from a (suc n) each =
      and_from (test a) (list_all test (range_with_len (a + 1) n)) (each a (omega arith)) (passes_from (a + 1) n (λ k h. each k (omega arith)))

  -- every test holds where they all do
  pub every_holds : (n : ℕ) → list_all test (range_with_len 0 n) ≡ true → (k : ℕ) → k < n → test k ≡ true
  every_holds n e k h = holds_from 0 n e k (omega arith) (omega arith)

  pub every_from : (n : ℕ) → ((k : ℕ) → k < n → test k ≡ true) → list_all test (range_with_len 0 n) ≡ true
  every_from n each = passes_from 0 n (λ k h. each k (omega arith))
