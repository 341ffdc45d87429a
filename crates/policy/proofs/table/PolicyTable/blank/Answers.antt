use Rattle.std.proofs.Common.{rules}
use Rattle.policy.proofs.Policies.{blank_masks}
use Rattle.policy.proofs.table.PolicyTable.blank.Goals as goal

pub invariant_of-result-clause-masks_fit : goal.invariant_of-result-clause-masks_fit
invariant_of-result-clause-masks_fit c permission = search (rules, blank_masks)
