use Rattle.std.proofs.Common.{◌≡◌, ◌++◌, map, take}
use Rattle.rb_plan.specs.Words.{node_name_prop}
use Rattle.rb_plan.proofs.wording.put_node_names.Given as goal

-- the attributes so far are put
abbrev pub invariant-loop-attribute : goal.invariant-loop-attribute
invariant-loop-attribute l = l.names ≡ l.initial.names ++ map node_name_prop (take l.attribute-index l.attribute-items)
