-- The lines of a text, and the words of a line. Assumes nothing.
use Rattle.std.specs.Prelude.{ℕ, ◌==◌, List, [], ◌∷◌, Option, Some, None, if◌then◌else◌}
use Rattle.std.specs.Borrow.{Bor}
use Rattle.std.specs.List.{onto_first}

-- what stands before the first such byte, or everything
abbrev pub front : ℕ → List ℕ → List ℕ
front separator [] = []
front separator (b ∷ bs) = if b == separator then [] else b ∷ front separator bs

-- what stands behind the first such byte, if it is there
abbrev pub behind : ℕ → List ℕ → Option (List ℕ)
behind separator [] = None
behind separator (b ∷ bs) = if b == separator then Some bs else behind separator bs

-- a line ends at byte 10, which the last one may lack; an empty text has no line
abbrev pub lines_of : List ℕ → List (List ℕ)
lines_of [] = []
lines_of (b ∷ bs) = if b == 10 then [] ∷ lines_of bs else onto_first b (lines_of bs)

-- two words have one byte 32 between them; an empty line has one word, which is empty
abbrev pub words_of : List ℕ → List (List ℕ)
words_of [] = [] ∷ []
words_of (b ∷ bs) = if b == 32 then [] ∷ words_of bs else onto_first b (words_of bs)

-- the words of what is left of a line, if something is left
abbrev pub words_left : Option (Bor (List ℕ)) → List (List ℕ)
words_left None = []
words_left (Some bytes) = words_of bytes.now
