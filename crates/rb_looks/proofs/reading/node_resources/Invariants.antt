use Rattle.std.proofs.Common.{◌≡◌, map, take}
use Rattle.rb_plan.specs.Access.{node_resource}
use Rattle.rb_looks.proofs.reading.node_resources.Given as goal

-- those of the nodes so far
abbrev pub invariant-loop-node : goal.invariant-loop-node
invariant-loop-node l = l.resources.items ≡ map node_resource (take l.node-index l.nodes)
