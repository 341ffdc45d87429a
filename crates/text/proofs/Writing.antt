-- Writing on a page, one piece behind the other.
use Rattle.std.proofs.Common.{◌≡◌, ℕ, ◌+◌, ◌<◌, ◌≤◌, ◌^◌, List, ◌++◌, length, drop, sym, ◌∙◌, ap, arith, append_assoc, length-append, decimal, lit<}
use Rattle.std.proofs.lemmas.List.{drop-drop}
use Rattle.std.proofs.lemmas.Fmt.{length-decimal-le}
use Rattle.policy.specs.declared.refusal.Refusal.{Refusal}
use Rattle.policy.specs.Refusals.{report}
use Rattle.policy.specs.declared.refusal.Refusal.TheVariants.{SizeOutOfRange, SizeTooLate, UnknownKind, RoleOutOfRange, BadSchedule, NeedSharesBar, GradeTooHigh, BadRow, NoSuchPermission, OutsideRoleSchedule, BadLength, OtherToll, WatchOutOfRange, TooManyLines, BadMask, BadValue, TooManyRules, NoSuchRule, ClockAtEnd, OutsideRuleSchedule, OfficerLacksRole, RoleNotEnabled, NeedOrBarFails, ListedMaskCarries, PresentMaskNotListed, StepNotListed, TooManyRoles, TableTooShort, BufferTooShort, UnreadableLine, WrongStage, TextTooLong, OutputTooShort}
use Rattle.text.specs.declared.page.Page.{Page}
use Rattle.text.specs.Pages.{Appends, text_on}

-- what is the same from one place on is so from a later one on
pub same_behind : (m k n : ℕ) (xs ys : List ℕ) → drop m xs ≡ drop m ys → n ≡ m + k → drop n xs ≡ drop n ys
same_behind m k n xs ys same e = rw e (sym (drop-drop k m xs) ∙ ap (drop k) same ∙ drop-drop k m ys)

-- two pieces written one behind the other are one
pub appends_both : (old : Page) (xs : List ℕ) (mid : Page) (ys : List ℕ) (new : Page) → Appends old xs mid → Appends mid ys new → Appends old (xs ++ ys) new
appends_both old xs mid ys new p q = record {
  text = q.text ∙ ap (λ zs. zs ++ ys) p.text ∙ append_assoc (text_on old) xs ys;
  place = grind (arith, p.place, q.place, length-append xs ys);
  size = q.size ∙ p.size;
  rest = q.rest ∙ same_behind mid.written (length ys) new.written mid.out.now old.out.now p.rest q.place;
  same = q.same ∙ p.same;
}

-- a number of 32 bits has at most ten digits
pub ten_digits : (n : ℕ) → n < 2 ^ 32 → length (decimal n) ≤ 10
ten_digits n small = length-decimal-le 10 n (omega arith) (omega arith) (omega arith)

-- a refusal's number has at most two digits
refusal_small : (refusal : Refusal) → (report refusal).number < 10 ^ 2
refusal_small refusal = elim refusal as (λ r. (report r).number < 10 ^ 2) [
  | SizeOutOfRange ↦ lit< tt
  | SizeTooLate ↦ lit< tt
  | UnknownKind ↦ lit< tt
  | RoleOutOfRange ↦ lit< tt
  | BadSchedule ↦ lit< tt
  | NeedSharesBar ↦ lit< tt
  | GradeTooHigh ↦ lit< tt
  | BadRow ↦ lit< tt
  | NoSuchPermission ↦ lit< tt
  | OutsideRoleSchedule ↦ lit< tt
  | BadLength ↦ lit< tt
  | OtherToll ↦ lit< tt
  | WatchOutOfRange ↦ lit< tt
  | TooManyLines ↦ lit< tt
  | BadMask _ ↦ lit< tt
  | BadValue _ ↦ lit< tt
  | TooManyRules ↦ lit< tt
  | NoSuchRule ↦ lit< tt
  | ClockAtEnd ↦ lit< tt
  | OutsideRuleSchedule ↦ lit< tt
  | OfficerLacksRole ↦ lit< tt
  | RoleNotEnabled ↦ lit< tt
  | NeedOrBarFails ↦ lit< tt
  | ListedMaskCarries _ ↦ lit< tt
  | PresentMaskNotListed ↦ lit< tt
  | StepNotListed _ _ ↦ lit< tt
  | TooManyRoles ↦ lit< tt
  | TableTooShort ↦ lit< tt
  | BufferTooShort ↦ lit< tt
  | UnreadableLine ↦ lit< tt
  | WrongStage ↦ lit< tt
  | TextTooLong ↦ lit< tt
  | OutputTooShort ↦ lit< tt
]

pub two_digits : (refusal : Refusal) → length (decimal (report refusal).number) ≤ 2
two_digits refusal = let small = refusal_small refusal in length-decimal-le 2 (report refusal).number (omega arith) small (omega arith)
