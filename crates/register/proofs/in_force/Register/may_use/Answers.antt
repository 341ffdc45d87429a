use Rattle.std.proofs.Common.{◌≡◌, ap, ◌∙◌, ap₂}
use lib.Bits.{bit_and}
use Rattle.std.proofs.lemmas.Bool.Decides.{Decides-at}
use Rattle.policy.specs.Masks.{shares}
use Rattle.roster.specs.Holdings.{mask}
use Rattle.register.specs.Memory.{state_of}
use Rattle.model.specs.Uses.{may_use}
use Rattle.model.proofs.Using.{uses_decides}
use Rattle.register.proofs.InMemory.{formed}
use Rattle.register.proofs.in_force.Register.may_use.Goals as goal

pub returns : goal.returns
returns g c =
    let st = state_of c.args.self.now in
    let person = c.args.person in
    let permission = c.args.permission in
    let own = c.mask.ensures ∙ ap (mask st.held person) c.slot_now-slot.ensures in
    let enabling = c.mask-2.ensures ∙ ap (mask st.held 0) c.slot_now-slot.ensures in
    let told : c.share_bit.result ≡ may_use (state_of c.args.self.now) c.args.person c.args.permission =
    c.share_bit.ensures ∙ ap₂ shares (ap₂ bit_and own enabling) c.permission_mask.ensures in
    record {
      test = told;
      uses = Decides-at c.share_bit.result (may_use st person permission) told (uses_decides st (formed c.args.self.now) person permission);
    }
