use Rattle.std.proofs.Common.{◌≡◌, ℕ, ◌-◌, ◌^◌, min, ap, ◌∙◌, arith}
use Rattle.policy.specs.Masks.{inside}
use Rattle.policy.proofs.Bits.{inside_ones}
use Rattle.policy.proofs.table.PolicyTable.mask_fits.Goals as goal

pub returns : goal.returns
returns c =
    let sizes = c.args.self.now.sizes in
    let few : min sizes.roles 16 ≡ sizes.roles = omega (arith, sizes.few_roles) in
    c.is_inside.ensures ∙ ap (inside c.args.mask) (c.all_below.ensures ∙ ap (λ (n : ℕ). 2 ^ n - 1) few) ∙ inside_ones sizes.roles c.args.mask
