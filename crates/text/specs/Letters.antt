-- The letters by which a line names a kind of rule or of toll. Assumes nothing.
use Rattle.std.specs.Prelude.{◌≡◌, ◌≢◌, ℕ, Result, MatchResult}
use Rattle.policy.specs.declared.kind.Kind.{Kind}
use Rattle.policy.specs.declared.kind.Kind.TheVariants.{Enable, Disable, Assign, Revoke}
use Rattle.policy.specs.declared.refusal.Refusal.{Refusal}
use Rattle.text.specs.declared.command.TollKind.{TollKind}
use Rattle.text.specs.declared.command.TollKind.TheVariants.{Acts, Grade, Clock}

-- `e`, `d`, `a` and `r`
abbrev pub kind_letter : Kind → ℕ
kind_letter Enable = 101
kind_letter Disable = 100
kind_letter Assign = 97
kind_letter Revoke = 114

-- `a`, `g` and `c`
abbrev pub toll_letter : TollKind → ℕ
toll_letter Acts = 97
toll_letter Grade = 103
toll_letter Clock = 99

-- r is the value that has the letter, or an error where none has it
abbrev pub NamedBy : {X : Type 0} → (X → ℕ) → ℕ → Result X Refusal → Type 0
NamedBy letter_of letter r = MatchResult r (λ x. letter_of x ≡ letter) (λ _. (x : _) → letter_of x ≢ letter)
