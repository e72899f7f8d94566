use Rattle.std.proofs.Common.{◌≡◌, drop, map}
use Rattle.rb_yaml.specs.Tree.{pair_tree}
use Rattle.rb_values.specs.Values.{value_at}
use Rattle.rb_values.proofs.keys.value_at.Given as goal

-- the value is among the entries that are left
abbrev pub invariant-loop-entry : goal.invariant-loop-entry
invariant-loop-entry l = value_at (drop l.entry-index (map pair_tree l.entries)) l.key
    ≡ value_at (map pair_tree l.entries) l.key
