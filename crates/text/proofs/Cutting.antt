-- Cutting a text at a byte, and its lines and words.
use Rattle.std.proofs.Common.{◌≡◌, ℕ, ◌+◌, ◌<◌, ◌==◌, true, false, List, [], ◌∷◌, length, take, drop, Option, Some, None, refl, sym, ◌∙◌, suc, cond, if◌then◌else◌, ap, arith, position, unwrap_or, ◌++◌, map, set, decimal, append_assoc}
use Rattle.std.specs.List.{position_from}
use Rattle.std.proofs.lemmas.Iterator.Adapters.{position_from-zero}
use Rattle.std.specs.Option.{option_map}
use Rattle.std.specs.Borrow.{Bor}
use Rattle.text.specs.Pieces.{front, behind, lines_of, words_of, words_left}
use Rattle.std.proofs.lemmas.List.{take_more_set, map-append}

cut_from : (s i : ℕ) (bs : List ℕ) (n : ℕ) → position_from (λ b. b == s) i bs ≡ Some n → (k : ℕ) × (n ≡ i + k) × (front s bs ≡ take k bs) × (behind s bs ≡ Some (drop (suc k) bs))
cut_from s i [] n e = cc
cut_from s i (b ∷ bs) n e = elim (b == s) as (λ t. cond t (Some i) (position_from (λ b. b == s) (i + 1) bs) ≡ Some n → (k : ℕ) × (n ≡ i + k) × ((if t then [] else b ∷ front s bs) ≡ take k (b ∷ bs)) × ((if t then Some bs else behind s bs) ≡ Some (drop (suc k) (b ∷ bs)))) [
  | true ↦ λ h. (0, grind arith, refl, refl)
  | false ↦ λ h. let r = cut_from s (i + 1) bs n h in (suc r.0, grind (arith, r.1), ap (λ xs. b ∷ xs) r.2, r.3)
] e

uncut_from : (s i : ℕ) (bs : List ℕ) → position_from (λ b. b == s) i bs ≡ None → (front s bs ≡ bs) × (behind s bs ≡ None)
uncut_from s i [] e = (refl, refl)
uncut_from s i (b ∷ bs) e = grind (arith, uncut_from s (i + 1) bs)

-- where the separator first stands at n
pub cut_there : (s : ℕ) (bs : List ℕ) (n : ℕ) → position (λ b. b == s) bs ≡ Some n → (front s bs ≡ take n bs) × (behind s bs ≡ Some (drop (n + 1) bs))
cut_there s bs n e = let p = cut_from s 0 bs n (sym (position_from-zero (λ b. b == s) bs) ∙ e) in grind (arith, p.1, p.2, p.3)

-- where it is not there
pub uncut : (s : ℕ) (bs : List ℕ) → position (λ b. b == s) bs ≡ None → (front s bs ≡ bs) × (behind s bs ≡ None)
uncut s bs e = uncut_from s 0 bs (sym (position_from-zero (λ b. b == s) bs) ∙ e)

-- the words of what stands behind a space, if it is there
abbrev pub words_behind : Option (List ℕ) → List (List ℕ)
words_behind None = []
words_behind (Some bs) = words_of bs

-- the first word of a line stands before its first space
pub words_cut : (bs : List ℕ) → words_of bs ≡ front 32 bs ∷ words_behind (behind 32 bs)
words_cut [] = refl
words_cut (b ∷ bs) = grind (arith, words_cut bs)

-- the first line of a text stands before its first line feed
pub lines_cut : (b : ℕ) (bs : List ℕ) → lines_of (b ∷ bs) ≡ front 10 (b ∷ bs) ∷ lines_of (unwrap_or (behind 10 (b ∷ bs)) [])
lines_cut b [] = grind arith
lines_cut b (a ∷ bs) = grind (arith, lines_cut a bs)

-- what a cut at a space leaves of a line's words
pub words_next : (bytes : List ℕ) (rest : Option (Bor (List ℕ))) (w : List ℕ) → w ≡ front 32 bytes → option_map (λ r. r.now) rest ≡ behind 32 bytes → words_of bytes ≡ w ∷ words_left rest
words_next bytes None w f b = words_cut bytes ∙ grind (arith, f, b)
words_next bytes (Some r) w f b = words_cut bytes ∙ grind (arith, f, b)

-- what a cut at a line feed leaves of a text's lines
pub lines_next : (bytes : List ℕ) (rest : Option (Bor (List ℕ))) (line : List ℕ) (left none : Bor (List ℕ)) → 0 < length bytes → line ≡ front 10 bytes → option_map (λ r. r.now) rest ≡ behind 10 bytes → none.now ≡ [] → left ≡ unwrap_or rest none → lines_of bytes ≡ line ∷ lines_of left.now
lines_next [] rest line left none some f b e u = absurd (omega (arith, some))
lines_next (a ∷ bytes) None line left none some f b e u = lines_cut a bytes ∙ grind (arith, f, b, e, u)
lines_next (a ∷ bytes) (Some r) line left none some f b e u = lines_cut a bytes ∙ grind (arith, f, b, e, u)

-- one more number read from a line
pub numbers_more : (ns : List ℕ) (i n : ℕ) (all left more : List (List ℕ)) → i < length ns → all ≡ map decimal (take i ns) ++ left → left ≡ decimal n ∷ more → all ≡ map decimal (take (i + 1) (set ns i n)) ++ more
numbers_more ns i n all left more h e f =
    let read = ap (λ xs. map decimal xs ++ more) (take_more_set ns i n h) ∙ ap (λ xs. xs ++ more) (map-append decimal (take i ns) (n ∷ [])) ∙ append_assoc (map decimal (take i ns)) (decimal n ∷ []) more in
    e ∙ ap (λ xs. map decimal (take i ns) ++ xs) f ∙ sym read
