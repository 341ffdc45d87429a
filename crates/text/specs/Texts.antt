-- When a text as a whole is refused. Assumes nothing.
use Rattle.std.specs.Prelude.{ℕ, ◌*◌, [], ◌∷◌, Option, nat_le}
use Rattle.policy.specs.declared.refusal.Refusal.{Refusal}
use Rattle.policy.specs.declared.refusal.Refusal.TheVariants.{TextTooLong, OutputTooShort}
use Rattle.policy.specs.Refusals.{first_failing}

-- the refusal of a text of that many bytes, with that many bytes for its output
abbrev pub text_refusal : ℕ → ℕ → Option Refusal
text_refusal text out = first_failing ((nat_le text 5000, TextTooLong) ∷ (nat_le (11 * text) out, OutputTooShort) ∷ [])
