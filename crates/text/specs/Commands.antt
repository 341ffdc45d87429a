-- Which words spell a command. Assumes nothing.
use Rattle.std.specs.Prelude.{◌≡◌, ◌≢◌, ℕ, List, [], ◌∷◌, ◌++◌, Option, Some, None, codes, decimal, map}
use Rattle.model.specs.declared.call.Call.{Call}
use Rattle.model.specs.declared.call.Call.TheVariants.{Tick, Act, May}
use Rattle.model.specs.declared.call.DraftCall.{DraftCall}
use Rattle.model.specs.declared.call.DraftCall.TheVariants.{Size, Put, Perm, Rule}
use Rattle.policy.specs.declared.kind.Kind.{Kind}
use Rattle.text.specs.Letters.{kind_letter, toll_letter}
use Rattle.text.specs.declared.command.Command.{Command}
use Rattle.text.specs.declared.command.Command.TheVariants.{Draft, Force, InForce, Survey}

-- the letter of the kind, or one that names none
abbrev pub IsLetterOf : Option Kind → ℕ → Type 0
IsLetterOf (Some kind) letter = kind_letter kind ≡ letter
IsLetterOf None letter = (kind : Kind) → kind_letter kind ≢ letter

-- the words are those of the draft call, and then the others
abbrev pub SpellsDraft : DraftCall → List (List ℕ) → List (List ℕ) → Type 0
SpellsDraft (Size roles slots persons) words others = words ≡ codes "size" ∷ (map decimal (roles ∷ slots ∷ persons ∷ []) ++ others)
SpellsDraft (Put row role schedule) words others = words ≡ codes "put" ∷ (map decimal (row ∷ role ∷ schedule ∷ []) ++ others)
SpellsDraft (Perm permission mask) words others = words ≡ codes "perm" ∷ (map decimal (permission ∷ mask ∷ []) ++ others)
SpellsDraft (Rule rule) words others =
    (letter : ℕ) × IsLetterOf rule.kind letter
    × (words ≡ codes "rule" ∷ ((letter ∷ []) ∷ (map decimal (rule.officer ∷ rule.rule_schedule ∷ rule.need ∷ rule.bar ∷ rule.role_schedule ∷ rule.role ∷ rule.grade ∷ []) ++ others)))

-- the words are those of the call in force, and then the others
abbrev pub SpellsCall : Call → List (List ℕ) → List (List ℕ) → Type 0
SpellsCall Tick words others = words ≡ codes "tick" ∷ others
SpellsCall (Act act) words others = words ≡ codes "act" ∷ (map decimal (act.rule ∷ act.officer ∷ act.target ∷ act.part ∷ []) ++ others)
SpellsCall (May person permission) words others = words ≡ codes "may" ∷ (map decimal (person ∷ permission ∷ []) ++ others)

-- the words are those of the command, and then the others
abbrev pub Spells : Command → List (List ℕ) → List (List ℕ) → Type 0
Spells (Draft call) words others = SpellsDraft call words others
Spells Force words others = words ≡ codes "force" ∷ others
Spells (InForce call) words others = SpellsCall call words others
Spells (Survey toll watch) words others = words ≡ codes "survey" ∷ ((toll_letter toll ∷ []) ∷ (map decimal (watch.row ∷ watch.slot ∷ watch.permission ∷ []) ++ others))
