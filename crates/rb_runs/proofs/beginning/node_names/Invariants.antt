use Rattle.std.proofs.Common.{◌≡◌, map, take}
use Rattle.rb_runs.proofs.beginning.node_names.Given as goal

-- the names of the nodes so far
abbrev pub invariant-loop-node : goal.invariant-loop-node
invariant-loop-node l = l.names ≡ map (λ n. n.name) (take l.node-index l.nodes)
