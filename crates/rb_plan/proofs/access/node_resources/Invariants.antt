use Rattle.std.proofs.Common.{◌≡◌, map, take}
use Rattle.rb_plan.specs.Access.{node_resource}
use Rattle.rb_plan.proofs.access.node_resources.Given as goal

-- the resources are those of the nodes so far
abbrev pub invariant-loop-node : goal.invariant-loop-node
invariant-loop-node l = l.resources.items
    ≡ map node_resource (map (λ node. node.now) (take l.node-index l.nodes))
