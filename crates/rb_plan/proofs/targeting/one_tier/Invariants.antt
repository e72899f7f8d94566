use Rattle.std.proofs.Common.{◌≡◌, map, take}
use Rattle.rb_plan.proofs.targeting.one_tier.Given as goal

-- there is a 0 for each node so far
abbrev pub invariant-loop-node : goal.invariant-loop-node
invariant-loop-node l = l.numbers ≡ map (λ node. 0) (take l._node-index l.nodes)
