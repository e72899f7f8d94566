-- The parts of a value at a delimiter.
use Rattle.std.specs.Prelude.{◌≡◌, ◌≢◌, ◌≤◌, ◌<◌, ℕ, ◌-◌, zero, suc, nat_eq, List, [], ◌∷◌, ◌++◌, length, drop, if◌then◌else◌}
use Rattle.std.specs.List.{starts_with}
use Rattle.rb_causes.specs.Texts.{is_empty, onto_first}

-- the parts between delimiters, the leftmost first, behind so many bytes of one that are passed
-- over
abbrev pub parts_behind : List ℕ → ℕ → List ℕ → List (List ℕ)
parts_behind delimiter passed [] = [] ∷ []
parts_behind delimiter (suc passed) (b ∷ bs) = parts_behind delimiter passed bs
parts_behind delimiter zero (b ∷ bs) =
    if starts_with nat_eq (b ∷ bs) delimiter
    then [] ∷ parts_behind delimiter (length delimiter - 1) bs
    else onto_first b (parts_behind delimiter zero bs)

-- the parts of a text; an empty delimiter parts nothing
abbrev pub parts_at : List ℕ → List ℕ → List (List ℕ)
parts_at delimiter text = if is_empty delimiter then text ∷ [] else parts_behind delimiter zero text

-- the delimiter does not stand at this place of the text
abbrev pub LacksAt : List ℕ → List ℕ → ℕ → Type 0
LacksAt delimiter text place = (rest : List ℕ) → drop place text ≢ delimiter ++ rest

-- A text is parted at a delimiter: the first part ends where that stands first, and the others are
-- those of what stands behind it; where it stands nowhere the whole text is one part.
pub data PartedAt (delimiter : List ℕ) : List ℕ → List (List ℕ) → Type 0 where
  whole : {text : List ℕ} → ((place : ℕ) → place ≤ length text → LacksAt delimiter text place) →
      PartedAt delimiter text (text ∷ [])
  part : {text : List ℕ} {parts : List (List ℕ)} (front back : List ℕ) →
      text ≡ front ++ delimiter ++ back →
      ((place : ℕ) → place < length front → LacksAt delimiter text place) →
      PartedAt delimiter back parts →
      PartedAt delimiter text (front ∷ parts)

-- the parts of a text are those into which it is parted, and no others are
abbrev pub PartsAreParted : Type 0
PartsAreParted =
    (delimiter text : List ℕ) (parts : List (List ℕ)) → delimiter ≢ [] →
    PartedAt delimiter text parts →
    parts_at delimiter text ≡ parts
