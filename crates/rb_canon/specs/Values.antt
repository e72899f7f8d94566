-- A value of a canonical document: texts, lists, and maps with plain or double-quoted keys.
use Rattle.std.specs.Prelude.{ℕ, List, [], ◌∷◌}

-- the key of a field, as it is written: plain, or in double quotes
pub data CanonKey : Type 0 where
  plain : List ℕ → CanonKey
  quoted : List ℕ → CanonKey

mutual
  pub data CanonTree : Type 0 where
    one_text : List ℕ → CanonTree
    items_in : Canons → CanonTree
    fields_in : Fields → CanonTree

  pub data Canons : Type 0 where
    no_canon : Canons
    canon : CanonTree → Canons → Canons

  pub data Fields : Type 0 where
    no_field : Fields
    field : CanonKey → CanonTree → Fields → Fields

abbrev pub canons_of : List CanonTree → Canons
canons_of [] = no_canon
canons_of (v ∷ vs) = canon v (canons_of vs)

abbrev pub fields_of : List (CanonKey × CanonTree) → Fields
fields_of [] = no_field
fields_of (f ∷ fs) = field f.0 f.1 (fields_of fs)

-- a list of these values, and a map of these fields
abbrev pub list_of : List CanonTree → CanonTree
list_of values = items_in (canons_of values)

abbrev pub map_of : List (CanonKey × CanonTree) → CanonTree
map_of fields = fields_in (fields_of fields)

-- what a key says
abbrev pub key_text : CanonKey → List ℕ
key_text (plain key) = key
key_text (quoted key) = key
