-- Lists of calls that are taken one after the other. Assumes nothing.
use Rattle.std.specs.Prelude.{List, [], ◌∷◌}

-- the state after all of them, where `next` says what a call makes of a state
abbrev pub after_all : {C S : Type 0} → (C → S → S) → List C → S → S
after_all next [] s = s
after_all next (call ∷ calls) s = after_all next calls (next call s)

-- what is answered to each
abbrev pub answers_along : {C S A : Type 0} → (C → S → A) → (C → S → S) → List C → S → List A
answers_along answer next [] s = []
answers_along answer next (call ∷ calls) s = answer call s ∷ answers_along answer next calls (next call s)
