use Rattle.std.proofs.Common.{◌≡◌, drop, map}
use Rattle.rb_yaml.specs.Tree.{yaml_tree, pair_tree, trees_of, entries_of}
use Rattle.rb_job.specs.Parts.{are_hollow, have_hollow}
use Rattle.rb_remarks.proofs.hollow.+hollow.Given as goal

-- those that are left are hollow where all are
abbrev pub invariant-are_hollow-loop-item : goal.invariant-are_hollow-loop-item
invariant-are_hollow-loop-item l = are_hollow (trees_of (drop l.item-index (map yaml_tree l.items))) ≡ are_hollow (trees_of (map yaml_tree l.items))

abbrev pub invariant-have_hollow-loop-entry : goal.invariant-have_hollow-loop-entry
invariant-have_hollow-loop-entry l = have_hollow (entries_of (drop l.entry-index (map pair_tree l.entries))) ≡ have_hollow (entries_of (map pair_tree l.entries))
