-- What each refusal is reported as. Assumes nothing.
use Rattle.std.specs.Prelude.{ℕ, Bool, List, [], ◌∷◌, ◌++◌, codes, if◌then◌else◌, Some, None, Ok, Err, Option, Result}
use Rattle.std.specs.Fmt.{decimal}
use Rattle.policy.specs.declared.refusal.Refusal.{Refusal}
use Rattle.policy.specs.declared.refusal.Refusal.TheVariants.{SizeOutOfRange, SizeTooLate, UnknownKind, RoleOutOfRange, BadSchedule, NeedSharesBar, GradeTooHigh, BadRow, NoSuchPermission, OutsideRoleSchedule, BadLength, OtherToll, WatchOutOfRange, TooManyLines, BadMask, BadValue, TooManyRules, NoSuchRule, ClockAtEnd, OutsideRuleSchedule, OfficerLacksRole, RoleNotEnabled, NeedOrBarFails, ListedMaskCarries, PresentMaskNotListed, StepNotListed, TooManyRoles, TableTooShort, BufferTooShort, UnreadableLine, WrongStage, TextTooLong, OutputTooShort}

-- what is reported of a refusal: its number; the certificate's line at fault, if it has one; the rule at fault, if it has one
pub record Report : Type 0 where
  pub number : ℕ
  pub line : Option ℕ
  pub rule : Option ℕ

abbrev plain : ℕ → Report
plain number = record { number = number; line = None; rule = None }

abbrev at_line : ℕ → Option ℕ → Report
at_line number line = record { number = number; line = line; rule = None }

abbrev pub report : Refusal → Report
report SizeOutOfRange = plain 1
report SizeTooLate = plain 2
report UnknownKind = plain 10
report RoleOutOfRange = plain 11
report BadSchedule = plain 12
report NeedSharesBar = plain 13
report GradeTooHigh = plain 14
report BadRow = plain 15
report NoSuchPermission = plain 16
report OutsideRoleSchedule = plain 17
report BadLength = plain 20
report OtherToll = plain 21
report WatchOutOfRange = plain 22
report TooManyLines = plain 23
report (BadMask line) = at_line 24 (Some line)
report (BadValue line) = at_line 25 line
report TooManyRules = plain 30
report NoSuchRule = plain 31
report ClockAtEnd = plain 32
report OutsideRuleSchedule = plain 33
report OfficerLacksRole = plain 34
report RoleNotEnabled = plain 35
report NeedOrBarFails = plain 36
report (ListedMaskCarries line) = at_line 40 (Some line)
report PresentMaskNotListed = plain 41
report (StepNotListed line rule) = record { number = 42; line = Some line; rule = Some rule }
report TooManyRoles = plain 43
report TableTooShort = plain 44
report BufferTooShort = plain 45
report UnreadableLine = plain 50
report WrongStage = plain 51
report TextTooLong = plain 52
report OutputTooShort = plain 53

-- what is printed for a refusal
abbrev pub refusal_text : Refusal → List ℕ
refusal_text refusal = codes "refused " ++ decimal (report refusal).number

-- a test, and the refusal where it fails
abbrev pub Test : Type 0
Test = Bool × Refusal

-- the refusal of the first test that fails
abbrev pub first_failing : List Test → Option Refusal
first_failing [] = None
first_failing (test ∷ tests) = if test.0 then first_failing tests else Some test.1

-- what a call answers that is refused so, or else answers x
abbrev pub answered : {X : Type 0} → Option Refusal → X → Result X Refusal
answered None x = Ok x
answered (Some refusal) x = Err refusal

-- the same answer with f of what it holds
abbrev pub mapped_ok : {X Y : Type 0} → (X → Y) → Result X Refusal → Result Y Refusal
mapped_ok f (Ok x) = Ok (f x)
mapped_ok f (Err refusal) = Err refusal
