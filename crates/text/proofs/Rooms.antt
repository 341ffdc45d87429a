-- How much the lines of a text may take on a page.
use Rattle.std.proofs.Common.{◌≡◌, ℕ, ◌+◌, ◌*◌, ◌-◌, ◌≤◌, ◌==◌, max, true, false, if◌then◌else◌, List, [], ◌∷◌, length, ap, ◌∙◌, arith}
use Rattle.std.specs.List.{onto_first}
use Rattle.text.specs.declared.page.Page.{Page}
use Rattle.text.specs.Pages.{Continues}
use Rattle.text.specs.Pieces.{lines_of}
use Rattle.text.proofs.Writing.{same_behind}

-- room enough for the outcomes of those lines
abbrev pub room_for : List (List ℕ) → ℕ
room_for [] = 0
room_for (line ∷ lines) = 11 * max 1 (length line) + room_for lines

room_onto : (b : ℕ) (lines : List (List ℕ)) → room_for (onto_first b lines) ≤ 11 + room_for lines
room_onto b [] = omega arith
room_onto b (line ∷ lines) = omega arith

pub room-lines_of : (bs : List ℕ) → room_for (lines_of bs) ≤ 11 * length bs
room-lines_of [] = omega arith
room-lines_of (b ∷ bs) = elim (b == 10) as (λ t. room_for (if t then [] ∷ lines_of bs else onto_first b (lines_of bs)) ≤ 11 * length (b ∷ bs)) [
  | true ↦ omega (arith, room-lines_of bs)
  | false ↦ omega (arith, room_onto b (lines_of bs), room-lines_of bs)
]

count_onto : (b : ℕ) (lines : List (List ℕ)) → length (onto_first b lines) ≤ 1 + length lines
count_onto b [] = omega arith
count_onto b (line ∷ lines) = omega arith

pub count-lines_of : (bs : List ℕ) → length (lines_of bs) ≤ length bs
count-lines_of [] = omega arith
count-lines_of (b ∷ bs) = elim (b == 10) as (λ t. length (if t then [] ∷ lines_of bs else onto_first b (lines_of bs)) ≤ length (b ∷ bs)) [
  | true ↦ omega (arith, count-lines_of bs)
  | false ↦ omega (arith, count_onto b (lines_of bs), count-lines_of bs)
]

pub continues_both : (old mid new : Page) → Continues old mid → Continues mid new → Continues old new
continues_both old mid new p q = record {
  grows = omega (arith, p.grows, q.grows);
  size = q.size ∙ p.size;
  rest = q.rest ∙ same_behind mid.written (new.written - mid.written) new.written mid.out.now old.out.now p.rest (omega (arith, q.grows));
  same = q.same ∙ p.same;
}

-- what holds between two lines, once so many of the text's lines are answered: the others, and the room that they need
pub record Between (text answered : ℕ) (first : Page) (others : List (List ℕ)) (page : Page) : Type 0 where
  pub count : answered + length others ≤ text
  pub room : page.written + room_for others ≤ length page.out.now
  pub continues : Continues first page

pub one_more : (text answered answered' : ℕ) (first page page' : Page) (line : List ℕ) (others others' : List (List ℕ)) → Between text answered first others page
    → others ≡ line ∷ others' → answered' ≡ answered + 1 → page'.written ≤ page.written + 11 * max 1 (length line) → Continues page page' → Between text answered' first others' page'
one_more text answered answered' first page page' line others others' held steps next place continued = record {
  count = omega (arith, held.count, ap length steps, next);
  room = omega (arith, held.room, ap room_for steps, place, continued.size);
  continues = continues_both first page page' held.continues continued;
}
