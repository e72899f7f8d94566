use Rattle.std.proofs.Common.{◌≡◌, map}
use Rattle.rb_yaml.specs.FlowView.{pair_view}
use Rattle.rb_yaml.specs.Tree.{pair_tree, scalar}
use Rattle.rb_yaml.proofs.flow_values.flow_map.Given as goal

abbrev pub invariant-loop-item : goal.invariant-loop-item
invariant-loop-item l = map pair_tree l.made.items ≡ map (λ item. (item.0, scalar l.number item.1)) (map pair_view l.yielded)
