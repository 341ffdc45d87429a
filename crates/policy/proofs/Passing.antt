-- Lists of tests that all pass. Assumes nothing.
use Rattle.std.proofs.Common.{◌≡◌, Bool, true, false, cond, List, [], ◌∷◌, Some, None, Option, refl}
use Rattle.std.proofs.lemmas.Bool.{true≢false}
use Rattle.policy.specs.Refusals.{Test, first_failing}
use Rattle.policy.specs.declared.refusal.Refusal.{Refusal}

-- each test passes, in their order
abbrev pub Passing : List Test → Type 0
Passing [] = Unit {0}
Passing (test ∷ tests) = (test.0 ≡ true) × Passing tests

by_test : (b : Bool) (refusal : Refusal) (tests : List Test) → (None ≡ first_failing tests → Passing tests)
    → None ≡ cond b (first_failing tests) (Some refusal) → (b ≡ true) × Passing tests
by_test true refusal tests rest e = (refl, rest e)
by_test false refusal tests rest e = absurd (true≢false (cc))

-- where none fails, each passes
pub passing : (tests : List Test) → None ≡ first_failing tests → Passing tests
passing [] e = tt
passing (test ∷ tests) e = by_test test.0 test.1 tests (passing tests) e

past : (b : Bool) (refusal : Refusal) (rest : Option Refusal) → b ≡ true → None ≡ rest → None ≡ cond b rest (Some refusal)
past true refusal rest h e = e
past false refusal rest h e = absurd (true≢false (cc))

-- where each passes, none fails
pub none_fails : (tests : List Test) → Passing tests → None ≡ first_failing tests
none_fails [] passed = refl
none_fails (test ∷ tests) passed = past test.0 test.1 (first_failing tests) passed.0 (none_fails tests passed.1)
