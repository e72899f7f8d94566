-- How many values stand in documents.
use Rattle.std.specs.Prelude.{ℕ, suc, ◌+◌, List, [], ◌∷◌}
use Rattle.rb_yaml.specs.Tree.{YamlTree, Trees, Entries, scalar, seq, mapping, no_tree, tree, no_entry, entry}

-- how many scalars, sequences and maps a value has, itself among them; keys are not counted
unfoldable mutual
  pub tree_size : YamlTree → ℕ
  tree_size (scalar line text) = 1
  tree_size (seq line items) = suc (items_size items)
  tree_size (mapping line entries) = suc (entries_size entries)

  pub items_size : Trees → ℕ
  items_size no_tree = 0
  items_size (tree value values) = tree_size value + items_size values

  pub entries_size : Entries → ℕ
  entries_size no_entry = 0
  entries_size (entry key value entries) = tree_size value + entries_size entries

-- how many they are in all documents together
abbrev pub docs_size : List YamlTree → ℕ
docs_size [] = 0
docs_size (doc ∷ docs) = tree_size doc + docs_size docs
