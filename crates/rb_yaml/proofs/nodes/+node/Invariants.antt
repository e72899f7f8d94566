use Rattle.std.proofs.Common.{◌≡◌, ◌+◌, ◌*◌, ℕ, List, [], map, drop}
use Rattle.rb_causes.specs.SeenTexts.{HasSeen}
use Rattle.rb_yaml.specs.PartsView.{part_view}
use Rattle.rb_yaml.specs.Tree.{yaml_tree, pair_tree}
use Rattle.rb_yaml.specs.Nodes.{all_items, item_of, all_entries, entry_of, node}
use Rattle.rb_yaml.proofs.NodeFacts.{with_trees, with_entries}
use Rattle.rb_yaml.proofs.nodes.+node.Given as goal

-- a node's parts have a level less than it, and each reader stands below the one that calls it
abbrev pub decreases-read_node : goal.decreases-read_node
decreases-read_node l = l.left * 8

abbrev pub decreases-read_block : goal.decreases-read_block
decreases-read_block l = l.left * 8 + 1

abbrev pub decreases-read_item_value : goal.decreases-read_item_value
decreases-read_item_value l = l.left * 8 + 3

abbrev pub decreases-read_item : goal.decreases-read_item
decreases-read_item l = l.left * 8 + 4

abbrev pub decreases-read_sequence : goal.decreases-read_sequence
decreases-read_sequence l = l.left * 8 + 5

-- the items so far and those that are left are all
abbrev pub invariant-read_sequence-loop-part : goal.invariant-read_sequence-loop-part
invariant-read_sequence-loop-part l =
    with_trees (map yaml_tree l.items.items) (all_items (item_of (node l.left) l.indent) (drop l.part-index (map part_view l.part-items)))
    ≡ all_items (item_of (node l.left) l.indent) (map part_view l.part-items)

abbrev pub decreases-read_inner : goal.decreases-read_inner
decreases-read_inner l = l.left * 8 + 2

abbrev pub decreases-read_value : goal.decreases-read_value
decreases-read_value l = l.left * 8 + 3

abbrev pub decreases-read_entry : goal.decreases-read_entry
decreases-read_entry l = l.left * 8 + 4

abbrev pub decreases-read_map : goal.decreases-read_map
decreases-read_map l = l.left * 8 + 5

-- the set holds the keys before, and the entries so far and those that are left are all
abbrev pub invariant-read_map-loop-part : goal.invariant-read_map-loop-part
invariant-read_map-loop-part l =
    (keys : List (List ℕ)) × HasSeen l.seen keys
    × (with_entries (map pair_tree l.entries.items) (all_entries (entry_of l.left (node l.left) l.indent) keys (drop l.part-index (map part_view l.part-items)))
    ≡ all_entries (entry_of l.left (node l.left) l.indent) [] (map part_view l.part-items))
