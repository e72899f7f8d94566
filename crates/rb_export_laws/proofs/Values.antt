-- The trees of values, as readers see them.
use Rattle.std.proofs.Common.{◌≡◌, List, [], ◌∷◌, map, refl, ap}
use Rattle.rb_values.specs.Values.{Entry, sequence_items, map_entries}
use Rattle.rb_canon.specs.Values.{CanonKey, CanonTree, list_of, map_of, key_text}
use Rattle.rb_canon_laws.specs.Trees.{tree_of}

-- a field as a reader sees it
abbrev pub read_field : CanonKey × CanonTree → Entry
read_field f = (key_text f.0, tree_of f.1)

pub items_read : (values : List CanonTree)
    → sequence_items (tree_of (list_of values)) ≡ map tree_of values
items_read [] = refl
items_read (v ∷ vs) = ap (λ ts. tree_of v ∷ ts) (items_read vs)

pub fields_read : (fields : List (CanonKey × CanonTree))
    → map_entries (tree_of (map_of fields)) ≡ map read_field fields
fields_read [] = refl
fields_read (f ∷ fs) = ap (λ es. read_field f ∷ es) (fields_read fs)
