-- The document of the nodes' text.
use Rattle.std.specs.Prelude.{ℕ, zero, suc, ◌+◌, codes}
use Rattle.rb_yaml.specs.Tree.{YamlTree, Entries, scalar, mapping, no_entry, entry}
use Rattle.rb_demo.specs.Numbers.{demo_node_name, node_tag}

-- the map of one node, whose line has its number
abbrev pub node_tree : ℕ → YamlTree
node_tree number =
    mapping number (entry (codes "tags") (scalar number (node_tag number)) no_entry)

-- so many nodes, from one on
abbrev pub node_entries : ℕ → ℕ → Entries
node_entries first zero = no_entry
node_entries first (suc count) =
    entry (demo_node_name first) (node_tree first) (node_entries (first + 1) count)

-- the document: one map of all nodes
abbrev pub nodes_doc : ℕ → YamlTree
nodes_doc nodes = mapping 1 (node_entries 1 nodes)
