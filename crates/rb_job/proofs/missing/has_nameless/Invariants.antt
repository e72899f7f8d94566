use Rattle.std.proofs.Common.{◌≡◌, drop, map}
use Rattle.std.specs.List.{list_any}
use Rattle.rb_yaml.specs.Tree.{yaml_tree}
use Rattle.rb_job.specs.Missing.{is_nameless}
use Rattle.rb_job.proofs.missing.has_nameless.Given as goal

-- one of the items that are left has no name where one of all has none
abbrev pub invariant-loop-item : goal.invariant-loop-item
invariant-loop-item l = list_any is_nameless (drop l.item-index (map yaml_tree l.items)) ≡ list_any is_nameless (map yaml_tree l.items)
