-- The trees that canonical documents are read as, with their lines and without.
use Rattle.std.specs.Prelude.{ℕ, ◌+◌, List, [], ◌∷◌, length}
use Rattle.rb_yaml.specs.Tree.{YamlTree, Trees, Entries, scalar, seq, mapping, no_tree, tree, no_entry, entry}
use Rattle.rb_canon.specs.Values.{key_text, CanonTree, one_text, items_in, fields_in, Canons, no_canon, canon, Fields, no_field, field}
use Rattle.rb_canon.specs.Layout.{lines_of, lines_behind}

-- how many lines a value takes
abbrev pub height : CanonTree → ℕ
height value = length (lines_of 0 value)

-- the same with the key before it
abbrev pub height_behind : CanonTree → ℕ
height_behind value = length (lines_behind 0 [] value)

abbrev mutual
  -- the tree of a value whose first line has this number
  pub tree_at : ℕ → CanonTree → YamlTree
  tree_at number (one_text text) = scalar number text
  tree_at number (items_in values) = seq number (trees_at number values)
  tree_at number (fields_in fields) = mapping number (entries_at number fields)

  pub trees_at : ℕ → Canons → Trees
  trees_at number no_canon = no_tree
  trees_at number (canon value values) =
      tree (tree_at number value) (trees_at (number + height value) values)

  pub entries_at : ℕ → Fields → Entries
  entries_at number no_field = no_entry
  entries_at number (field key value fields) =
      entry (key_text key) (tree_behind number value)
      (entries_at (number + height_behind value) fields)

  -- the tree of a value whose key stands on the line of this number
  pub tree_behind : ℕ → CanonTree → YamlTree
  tree_behind number (one_text text) = scalar number text
  tree_behind number (items_in no_canon) = seq number no_tree
  tree_behind number (items_in (canon value values)) =
      seq (number + 1) (trees_at (number + 1) (canon value values))
  tree_behind number (fields_in no_field) = mapping number no_entry
  tree_behind number (fields_in (field key value fields)) =
      mapping (number + 1) (entries_at (number + 1) (field key value fields))

-- the trees of documents of which the first begins on the line of this number
abbrev pub docs_at : ℕ → List CanonTree → List YamlTree
docs_at number [] = []
docs_at number (value ∷ values) =
    tree_at number value ∷ docs_at (number + height value + 1) values

-- a tree with no lines: each is 0
abbrev mutual
  pub lineless : YamlTree → YamlTree
  lineless (scalar line text) = scalar 0 text
  lineless (seq line items) = seq 0 (items_lineless items)
  lineless (mapping line entries) = mapping 0 (entries_lineless entries)

  pub items_lineless : Trees → Trees
  items_lineless no_tree = no_tree
  items_lineless (tree value values) = tree (lineless value) (items_lineless values)

  pub entries_lineless : Entries → Entries
  entries_lineless no_entry = no_entry
  entries_lineless (entry key value entries) =
      entry key (lineless value) (entries_lineless entries)

-- the tree of a value, with no lines
abbrev mutual
  pub tree_of : CanonTree → YamlTree
  tree_of (one_text text) = scalar 0 text
  tree_of (items_in values) = seq 0 (trees_in values)
  tree_of (fields_in fields) = mapping 0 (entries_in fields)

  pub trees_in : Canons → Trees
  trees_in no_canon = no_tree
  trees_in (canon value values) = tree (tree_of value) (trees_in values)

  pub entries_in : Fields → Entries
  entries_in no_field = no_entry
  entries_in (field key value fields) = entry (key_text key) (tree_of value) (entries_in fields)
