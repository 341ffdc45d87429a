-- What a row's record holds. Assumes nothing.
use Rattle.std.proofs.Common.{◌≡◌, ℕ, true, false, eqb, List, get_or, arith}
use Rattle.std.specs.List.{list_all}
use Rattle.std.proofs.lemmas.Grind.{common_steps}
use Rattle.policy.specs.Masks.{bit}
use Rattle.policy.proofs.Bits.{bit_none}

-- words that are all 0 have no bit
pub no_bit : (words : List ℕ) (k i : ℕ) → list_all (λ word. eqb word 0) words ≡ true → bit (get_or words k 0) i ≡ false
no_bit words k i all = grind (arith, common_steps, bit_none)
