-- Forms of values, and the flaws of a value that is to have one: each as it is written, and those
-- in a map before those of the map as a whole.
use Rattle.std.specs.Prelude.{ℕ, List, [], ◌∷◌, ◌++◌, Option, Some, None, bytes_eq, if◌then◌else◌}
use Rattle.std.specs.List.{flat_map}
use Rattle.rb_yaml.specs.Tree.{YamlTree}
use Rattle.rb_acl_doc.specs.Texts.{holds_texts}
use Rattle.rb_values.specs.Values.{Entry, is_text, items_in, entries_in}
use Rattle.rb_acl_doc.specs.declared.fault.AclKind.{AclKind}
use Rattle.rb_acl_doc.specs.declared.fault.AclKind.TheVariants.{UnknownKey, BadShape}

-- the flaws of a value that stands under this key, or in a sequence under it
abbrev pub Form : Type 0
Form = List ℕ → YamlTree → List AclKind

-- a form for each key that a map may have
abbrev pub Keys : Type 0
Keys = List (List ℕ × Form)

-- the flaws of a map as a whole
abbrev pub Whole : Type 0
Whole = List ℕ → List Entry → List AclKind

abbrev pub anything : Form
anything key value = []

-- a text
abbrev pub one_text : Form
one_text key value = if is_text value then [] else BadShape key ∷ []

-- a text, or a sequence of texts
abbrev pub texts : Form
texts key value = if holds_texts value then [] else BadShape key ∷ []

abbrev pub in_items : Form → List ℕ → Option (List YamlTree) → List AclKind
in_items form key None = BadShape key ∷ []
in_items form key (Some items) = flat_map (form key) items

-- a sequence of values of this form
abbrev pub list_of : Form → Form
list_of form key value = in_items form key (items_in value)

abbrev pub in_values : Form → List ℕ → Option (List Entry) → List AclKind
in_values form key None = BadShape key ∷ []
in_values form key (Some entries) = flat_map (λ e. form e.0 e.1) entries

-- a map with any keys, to values of this form
abbrev pub any_keys : Form → Form
any_keys form key value = in_values form key (entries_in value)

abbrev pub in_entry : Keys → Entry → List AclKind
in_entry [] e = UnknownKey e.0 ∷ []
in_entry (row ∷ rows) e = if bytes_eq e.0 row.0 then row.1 e.0 e.1 else in_entry rows e

abbrev pub in_map : Keys → Whole → List ℕ → Option (List Entry) → List AclKind
in_map keys whole key None = BadShape key ∷ []
in_map keys whole key (Some entries) = flat_map (in_entry keys) entries ++ whole key entries

-- a map with these keys alone, to values of their forms
abbrev pub map_with : Keys → Whole → Form
map_with keys whole key value = in_map keys whole key (entries_in value)
