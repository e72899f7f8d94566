-- The values of a document as texts, lists and maps, and what stands under a key.
use Rattle.std.specs.Prelude.{ℕ, Bool, List, [], ◌∷◌, Option, Some, None, is_some, unwrap_or, option_map, find, bytes_eq}
pub use Rattle.rb_yaml.specs.Nodes.{Entry}
use Rattle.rb_yaml.specs.Nodes.{Entry}
use Rattle.rb_yaml.specs.Tree.{YamlTree, scalar, seq, mapping, Trees, no_tree, tree, Entries, no_entry, entry}

abbrev pub tree_list : Trees → List YamlTree
tree_list no_tree = []
tree_list (tree t ts) = t ∷ tree_list ts

abbrev pub entry_list : Entries → List Entry
entry_list no_entry = []
entry_list (entry key value es) = (key, value) ∷ entry_list es

-- the text that a value is
abbrev pub text_in : YamlTree → Option (List ℕ)
text_in (scalar line text) = Some text
text_in (seq line items) = None
text_in (mapping line entries) = None

-- the items of a sequence
abbrev pub items_in : YamlTree → Option (List YamlTree)
items_in (scalar line text) = None
items_in (seq line items) = Some (tree_list items)
items_in (mapping line entries) = None

-- the entries of a map
abbrev pub entries_in : YamlTree → Option (List Entry)
entries_in (scalar line text) = None
entries_in (seq line items) = None
entries_in (mapping line entries) = Some (entry_list entries)

abbrev pub is_text : YamlTree → Bool
is_text value = is_some (text_in value)

-- the text that a value is, or the empty one
abbrev pub scalar_or_empty : YamlTree → List ℕ
scalar_or_empty value = unwrap_or (text_in value) []

-- the items of a sequence, and none of another value
abbrev pub sequence_items : YamlTree → List YamlTree
sequence_items value = unwrap_or (items_in value) []

-- the entries of a map, and none of another value
abbrev pub map_entries : YamlTree → List Entry
map_entries value = unwrap_or (entries_in value) []

-- the value under a key
abbrev pub value_at : List Entry → List ℕ → Option YamlTree
value_at entries key = option_map (λ e. e.1) (find (λ e. bytes_eq e.0 key) entries)

abbrev pub has_key : List Entry → List ℕ → Bool
has_key entries key = is_some (value_at entries key)

-- the text under a key, if one is there
abbrev pub text_by : Option YamlTree → Option (List ℕ)
text_by None = None
text_by (Some value) = text_in value

abbrev pub text_at : List Entry → List ℕ → Option (List ℕ)
text_at entries key = text_by (value_at entries key)

-- the items of the sequence under a key
abbrev pub items_by : Option YamlTree → List YamlTree
items_by None = []
items_by (Some value) = sequence_items value

abbrev pub items_at : List Entry → List ℕ → List YamlTree
items_at entries key = items_by (value_at entries key)

-- the entries of the map under a key
abbrev pub entries_by : Option YamlTree → List Entry
entries_by None = []
entries_by (Some value) = map_entries value

abbrev pub entries_at : List Entry → List ℕ → List Entry
entries_at entries key = entries_by (value_at entries key)
