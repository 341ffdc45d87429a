use Rattle.std.proofs.Common.{sym, ap, ◌∙◌, arith}
use Rattle.policy.specs.Kinds.{adds}
use Rattle.policy.proofs.Policies.{kept_by}
use Rattle.roster.specs.Holdings.{Held}
use Rattle.model.proofs.Acting.{goes, goes_held}
use Rattle.model.proofs.Allowing.{allowed_if}
use Rattle.model.proofs.Within.{changed_within, changed_is}
use Rattle.register.specs.Memory.{state_of}
use Rattle.register.proofs.InMemory.{formed}
use Rattle.register.proofs.in_force.Register.carry_out.Goals as goal

pub invariant_of-self-clause-within_roles : goal.invariant_of-self-clause-within_roles
invariant_of-self-clause-within_roles g c =
    let table = c.args.self.now.table in
    let proper = kept_by table.sizes.roles table.sizes.slots c.args.rule (table.proper c.args.act.rule c.args.rule (sym c.requires.is_rule)) in
    rw c.apply.ensures (changed_within table.sizes.roles _ (adds c.args.rule.kind) c.args.act.target c.args.rule.role c.args.act.part proper.role c.args.self.now.within_roles)

pub returns : goal.returns
returns g c =
    let register = c.args.self.now in
    let st = state_of register in
    let rule = c.args.rule in
    let act = c.args.act in
    let goes_on = goes st rule act _ c.requires.is_rule c.requires.passes in
    let allowed = allowed_if st (formed register) act goes_on in
    let proper = kept_by st.policy.roles st.policy.slots rule (register.table.proper act.rule rule (sym c.requires.is_rule)) in
    ap (λ (held : Held). record { policy = st.policy; clock = st.clock; held = held })
    (c.apply.ensures
    ∙ changed_is st.held (adds rule.kind) act.target rule.role act.part (omega (arith, allowed.on_row, register.table.sizes.few_persons)) (omega (arith, proper.role, register.table.sizes.few_roles))
    ∙ goes_held st rule act _ c.requires.is_rule goes_on)
