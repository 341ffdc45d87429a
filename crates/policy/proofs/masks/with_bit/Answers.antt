use Rattle.std.proofs.Common.{◌^◌, ◌<◌, arith, rules}
use Rattle.std.proofs.lemmas.Bool.Decides.{nat_tests}
use Rattle.policy.proofs.Bits.{bit_one_shifted, below_from_same_bits}
use Rattle.policy.proofs.masks.with_bit.Goals as goal

pub overflow_cast-result : goal.overflow_cast-result
overflow_cast-result c =
    let below : c.with_part.result < 2 ^ 16 = below_from_same_bits 32 16 c.with_part.result c.from.result (search rules) (search rules)
    (λ i l. grind (arith, nat_tests, bit_one_shifted, c.with_part.ensures i)) in
    search rules
