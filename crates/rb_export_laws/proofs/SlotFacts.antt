-- What is read under the keys of slots.
use Rattle.std.proofs.Common.{◌≡◌, ◌∙◌, ℕ, Bool, true, false, cond, not, ◌&&◌, List, [], ◌∷◌, map, bytes_eq, find, Option, Some, None, option_map, refl, ap, sym}
use Rattle.std.proofs.lemmas.Bool.{and_parts}
use Rattle.rb_causes.proofs.Texts.{text_is}
use Rattle.rb_yaml.specs.Tree.{YamlTree}
use Rattle.rb_values.specs.Values.{Entry, map_entries, value_at}
use Rattle.rb_canon.specs.Values.{CanonTree}
use Rattle.rb_canon_laws.specs.Trees.{tree_of}
use Rattle.rb_export.specs.Policies.{under}
use Rattle.rb_export.specs.Slots.{Slot, in_front, present, map_with}
use Rattle.rb_export_laws.proofs.Values.{read_field, fields_read}

-- the value under a key
abbrev pub slot_at : List Slot → List ℕ → Option CanonTree
slot_at [] key = None
slot_at (slot ∷ slots) key = cond (bytes_eq slot.0 key) slot.1 (slot_at slots key)

abbrev pub lacks_slot : List Slot → List ℕ → Bool
lacks_slot [] key = true
lacks_slot (slot ∷ slots) key = not (bytes_eq slot.0 key) && lacks_slot slots key

-- no key twice
abbrev pub slots_differ : List Slot → Bool
slots_differ [] = true
slots_differ (slot ∷ slots) = lacks_slot slots slot.0 && slots_differ slots

absent_by : (b : Bool) (here rest : Option CanonTree) → not b ≡ true → rest ≡ None
    → cond b here rest ≡ None
absent_by true here rest h g = let never : ⊥ = cc in absurd never
absent_by false here rest h g = g

absent : (slots : List Slot) (key : List ℕ) → lacks_slot slots key ≡ true
    → slot_at slots key ≡ None
absent [] key h = refl
absent (slot ∷ slots) key h =
    let parts = and_parts (not (bytes_eq slot.0 key)) (lacks_slot slots key) h in
    absent_by (bytes_eq slot.0 key) slot.1 (slot_at slots key) parts.0
    (absent slots key parts.1)

-- the entries of these slots, as they are read
abbrev pub read_slots : List Slot → List Entry
read_slots slots = map read_field (present slots)

skipped : (slot : Slot) (key : List ℕ) (rest : Option CanonTree) (read : Option YamlTree) (b : Bool)
    → bytes_eq slot.0 key ≡ b → (slot.0 ≡ key → rest ≡ None)
    → read ≡ option_map tree_of rest → read ≡ option_map tree_of (cond b None rest)
skipped slot key rest read true is gone h =
    h ∙ ap (option_map tree_of) (gone (text_is slot.0 key is))
skipped slot key rest read false is gone h = h

found : (key here : List ℕ) (value : CanonTree) (slots : List Slot) (b : Bool)
    → value_at (read_slots slots) key ≡ option_map tree_of (slot_at slots key)
    → option_map (λ e. e.1) (cond b (Some (read_field (under here value)))
    (find (λ e. bytes_eq e.0 key) (read_slots slots)))
    ≡ option_map tree_of (cond b (Some value) (slot_at slots key))
found key here value slots true h = refl
found key here value slots false h = h

one_slot : (slot : Slot) (value : Option CanonTree) (slots : List Slot) (key : List ℕ)
    → (slot.0 ≡ key → slot_at slots key ≡ None)
    → value_at (read_slots slots) key ≡ option_map tree_of (slot_at slots key)
    → value_at (map read_field (in_front slot.0 value (present slots))) key
    ≡ option_map tree_of (cond (bytes_eq slot.0 key) value (slot_at slots key))
one_slot slot None slots key gone h =
    skipped slot key (slot_at slots key) (value_at (read_slots slots) key) (bytes_eq slot.0 key)
    refl gone h
one_slot slot (Some value) slots key gone h =
    found key slot.0 value slots (bytes_eq slot.0 key) h

-- what is read under a key
pub present_at : (slots : List Slot) (key : List ℕ) → slots_differ slots ≡ true
    → value_at (read_slots slots) key ≡ option_map tree_of (slot_at slots key)
present_at [] key h = refl
present_at (slot ∷ slots) key h =
    let parts = and_parts (lacks_slot slots slot.0) (slots_differ slots) h in
    one_slot slot slot.1 slots key
    (λ is. ap (slot_at slots) (sym is) ∙ absent slots slot.0 parts.0)
    (present_at slots key parts.1)

-- a map of slots, as its entries are read
pub map_with_read : (slots : List Slot) → map_entries (tree_of (map_with slots)) ≡ read_slots slots
map_with_read slots = fields_read (present slots)
