use Rattle.std.proofs.Common.{drop, map, take}
use Rattle.rb_yaml.specs.Tree.{yaml_tree, pair_tree}
use Rattle.rb_job.proofs.Looking.{ItemsLeft, EntriesLeft}
use Rattle.rb_job.proofs.checking.+checking.Given as goal

-- the items that are left tell what all tell
abbrev pub invariant-check_items-loop-item : goal.invariant-check_items-loop-item
invariant-check_items-loop-item l = ItemsLeft l.part l.key (map yaml_tree l.items) (drop l.item-index (map yaml_tree l.items)) l.seen

-- so do the entries that are left
abbrev pub invariant-check_entries-loop-i : goal.invariant-check_entries-loop-i
invariant-check_entries-loop-i l =
    EntriesLeft l.part l.place (map pair_tree l.entries) (map pair_tree (take l.i l.entries)) (drop l.i (map pair_tree l.entries))
