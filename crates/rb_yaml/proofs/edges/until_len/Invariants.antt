use Rattle.std.proofs.Common.{◌≡◌, ◌≤◌, ◌-◌, ◌++◌, length, take, drop}
use Rattle.rb_yaml.specs.Parts.{until, onward}
use Rattle.rb_yaml.specs.Edges.{edge_test}
use Rattle.rb_yaml.proofs.edges.until_len.Given as goal

-- the lines passed are before the first that begins a part, and those that are left have the rest
abbrev pub invariant-loop-at : goal.invariant-loop-at
invariant-loop-at l = record {
  within : l.at ≤ length l.lines;
  front : take l.at l.lines ++ until (edge_test l.edge) (drop l.at l.lines) ≡ until (edge_test l.edge) l.lines;
  rest : onward (edge_test l.edge) (drop l.at l.lines) ≡ onward (edge_test l.edge) l.lines;
}

abbrev pub decreases-loop-at : goal.decreases-loop-at
decreases-loop-at l = length l.lines - l.at
