-- Maps whose keys stand only where they have a value that is not the default.
use Rattle.std.specs.Prelude.{ℕ, Bool, nat_eq, List, [], ◌∷◌, codes, bytes_eq, decimal, Option, Some, None, option_map, if◌then◌else◌}
use Rattle.rb_canon.specs.Values.{CanonTree, one_text, list_of, map_of}
use Rattle.rb_export.specs.Policies.{Entry, under}

-- a key, with the value that is written under it, if there is one
abbrev pub Slot : Type 0
Slot = List ℕ × Option CanonTree

abbrev pub in_front : List ℕ → Option CanonTree → List Entry → List Entry
in_front key None entries = entries
in_front key (Some value) entries = under key value ∷ entries

-- the entries of the keys that have a value
abbrev pub present : List Slot → List Entry
present [] = []
present (slot ∷ slots) = in_front slot.0 slot.1 (present slots)

abbrev pub map_with : List Slot → CanonTree
map_with slots = map_of (present slots)

-- a text that is always written
abbrev pub text : List ℕ → Option CanonTree
text t = Some (one_text t)

-- a text, if there is one
abbrev pub text_if_any : Option (List ℕ) → Option CanonTree
text_if_any t = option_map one_text t

-- a text that is not the default
abbrev pub text_unless : List ℕ → List ℕ → Option CanonTree
text_unless default t = if bytes_eq t default then None else text t

-- a number that is not the default
abbrev pub number_unless : ℕ → ℕ → Option CanonTree
number_unless default n = if nat_eq n default then None else text (decimal n)

-- what is false by default, and what is true
abbrev pub true_if : Bool → Option CanonTree
true_if holds = if holds then text (codes "true") else None

abbrev pub false_unless : Bool → Option CanonTree
false_unless holds = if holds then None else text (codes "false")

-- a list that has items
abbrev pub list_if_any : List CanonTree → Option CanonTree
list_if_any [] = None
list_if_any (value ∷ values) = Some (list_of (value ∷ values))

-- a map that has entries
abbrev pub map_if_any : List Entry → Option CanonTree
map_if_any [] = None
map_if_any (e ∷ es) = Some (map_of (e ∷ es))
