-- The bytes of a word, and the words that a line still has. Assumes nothing.
use Rattle.std.specs.Prelude.{◌≡◌, ◌≢◌, ℕ, ◌<◌, List, length, true, false}
use Rattle.std.specs.Char.{is_ascii_digit}
use Rattle.std.specs.List.{list_all}
use Rattle.text.specs.declared.word.Word.{Word}
use Rattle.text.specs.declared.word.Word.TheVariants.{Digits, Letter, Name}

abbrev pub part_of : Word → List ℕ
part_of (Digits part line) = part.now
part_of (Letter part line) = part.now
part_of (Name part line) = part.now

-- digits are only digits and at least one; a letter is one byte and no digit; a name is anything else
abbrev pub HasItsCase : Word → Type 0
HasItsCase (Digits part line) = (0 < length part.now) × (list_all is_ascii_digit part.now ≡ true)
HasItsCase (Letter part line) = (length part.now ≡ 1) × (list_all is_ascii_digit part.now ≡ false)
HasItsCase (Name part line) = (length part.now ≢ 1) × (0 < length part.now → list_all is_ascii_digit part.now ≡ false)
