use Rattle.std.proofs.Common.{◌≡◌, ◌≤◌, ◌-◌, ◌++◌, [], map, drop, length}
use Rattle.rb_yaml.specs.Parts.{parts}
use Rattle.rb_yaml.specs.PartsView.{part_view}
use Rattle.rb_yaml.specs.Edges.{edge_test}
use Rattle.rb_yaml.proofs.parts.split_parts.Given as goal

-- the parts so far and those that are left are all
abbrev pub invariant-loop-made : goal.invariant-loop-made
invariant-loop-made l = record {
  within : l.at ≤ length l.lines;
  same : map part_view l.made.items ++ parts (edge_test l.edge) l.first [] (drop l.at l.lines) ≡ parts (edge_test l.edge) l.head [] l.lines;
}

abbrev pub decreases-loop-made : goal.decreases-loop-made
decreases-loop-made l = length l.lines - l.at
