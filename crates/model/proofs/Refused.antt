-- What a refusal leaves. Assumes nothing.
use Rattle.std.proofs.Common.{◌≡◌, Some, None, Err, Option, refl, ap}
use Rattle.std.proofs.lemmas.Bool.{true≢false}
use Rattle.policy.specs.Refusals.{answered}
use Rattle.policy.specs.declared.refusal.Refusal.{Refusal}
use Rattle.model.specs.Drafts.{unless_refused}

-- where the answer is a refusal, the old value stays
pub stays : {X Y : Type 0} (found : Option Refusal) (y : Y) (refusal : Refusal) (new old : X) → Err refusal ≡ answered found y → old ≡ unless_refused found new old
stays None y refusal new old e = absurd (true≢false (cc))
stays (Some other) y refusal new old e = refl

-- the same refusal, whatever is answered where there is none
pub refused_so : {X Y : Type 0} (found : Option Refusal) (x : X) (y : Y) (refusal : Refusal) → Err refusal ≡ answered found x → Err refusal ≡ answered found y
refused_so None x y refusal e = absurd (true≢false (cc))
refused_so (Some other) x y refusal e = ap Err (let f = e in cc)
