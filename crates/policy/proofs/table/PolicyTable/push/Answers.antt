use Rattle.policy.specs.Tables.{policy_of}
use Rattle.policy.proofs.Policies.{accepted, push_proper}
use Rattle.policy.proofs.table.PolicyTable.push.Goals as goal

pub invariant_of-self-clause-proper : goal.invariant_of-self-clause-proper
invariant_of-self-clause-proper c =
    let t = c.args.self.now in
    let fine = accepted (policy_of t) c.args.proposed c.requires in
    rw (c.push.ensures.items, c.of_kind.ensures) (push_proper t.sizes.roles t.sizes.slots t.rules.items _ t.proper (fine.proper c.args.kind))
