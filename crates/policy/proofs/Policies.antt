-- Laws of policies in tables. Assumes nothing.
use Rattle.std.proofs.Common.{◌≡◌, ℕ, zero, suc, ◌^◌, ◌<◌, ◌≤◌, true, ◌⊎◌, List, [], ◌∷◌, ◌++◌, length, replicate, Some, None, sym, subst, inl, inr, ⊎_elim, arith}
use Rattle.std.specs.List.{slice_get}
use Rattle.std.proofs.lemmas.Nat.{pow_pos}
use Rattle.std.proofs.lemmas.Grind.{common_steps}
use Rattle.std.proofs.lemmas.List.{get_or-replicate, get_or_past, length-replicate}
use Rattle.std.proofs.lemmas.Bool.{cases_lt, true≢false}
use Rattle.policy.specs.Policies.{Policy, MasksFit, AllProper, proper, as_proposed, proposal_tests, schedule_fits}
use Rattle.policy.specs.Masks.{apart}
use Rattle.policy.specs.Refusals.{first_failing}
use Rattle.policy.specs.declared.kind.Kind.{Kind}
use Rattle.policy.specs.declared.rule.ProposedRule.{ProposedRule}
use Rattle.policy.specs.declared.rule.Rule.{Rule}

-- empty permissions lie inside any roles
pub blank_masks : (roles n : ℕ) → MasksFit roles (replicate n 0)
blank_masks roles n permission =
    ⊎_elim
    (λ h. subst (λ (m : ℕ). m < 2 ^ roles) (sym (get_or-replicate n permission 0 0 h)) (pow_pos roles))
    (λ h. subst (λ (m : ℕ). m < 2 ^ roles) (sym (get_or_past (replicate n 0) permission 0 (omega (arith, length-replicate {A = ℕ} n 0)))) (pow_pos roles))
    (cases_lt permission n)

-- what stands in a list with one more at its end
pub nth_push : {X : Type 0} (xs : List X) (y z : X) (i : ℕ) → slice_get (xs ++ (y ∷ [])) i ≡ Some z → (slice_get xs i ≡ Some z) ⊎ (y ≡ z)
nth_push [] y z zero e = inr (cc)
nth_push [] y z (suc i) e = absurd (true≢false (cc))
nth_push (x ∷ xs) y z zero e = inl e
nth_push (x ∷ xs) y z (suc i) e = nth_push xs y z i e

-- one proper rule more
pub push_proper : (roles slots : ℕ) (rules : List Rule) (rule : Rule) → AllProper roles slots rules → proper roles slots rule ≡ true
    → AllProper roles slots (rules ++ (rule ∷ []))
push_proper roles slots rules rule all ok number found e =
    ⊎_elim (all number found) (λ same. subst (λ (r : Rule). proper roles slots r ≡ true) same ok) (nth_push rules rule found number e)

-- what an accepted proposal keeps
pub record Accepted (policy : Policy) (proposed : ProposedRule) : Type 0 where
  pub need : proposed.need < 2 ^ policy.roles
  pub bar : proposed.bar < 2 ^ policy.roles
  pub room : length policy.rules < 64
  pub proper : (kind : Kind) → proper policy.roles policy.slots (as_proposed kind proposed) ≡ true

pub accepted : (policy : Policy) (proposed : ProposedRule) → None ≡ first_failing (proposal_tests policy proposed) → Accepted policy proposed
accepted policy proposed e = grind (arith, common_steps)

-- what a proper rule keeps, by name
pub record KeptBy (roles slots : ℕ) (rule : Rule) : Type 0 where
  pub officer : rule.officer < roles
  pub need : rule.need < 2 ^ roles
  pub bar : rule.bar < 2 ^ roles
  pub role : rule.role < roles
  pub rule_schedule : schedule_fits slots rule.rule_schedule ≡ true
  pub role_schedule : schedule_fits slots rule.role_schedule ≡ true
  pub distinct : apart rule.need rule.bar ≡ true
  pub grade : rule.grade ≤ 15

pub kept_by : (roles slots : ℕ) (rule : Rule) → proper roles slots rule ≡ true → KeptBy roles slots rule
kept_by roles slots rule e = grind (arith, common_steps)
