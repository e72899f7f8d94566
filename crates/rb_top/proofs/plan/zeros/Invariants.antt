use Rattle.std.proofs.Common.{◌≡◌, ◌++◌, drop}
use Rattle.rb_top.specs.Drill.{zeros}
use Rattle.rb_top.proofs.plan.zeros.Given as goal

abbrev pub invariant-loop-node : goal.invariant-loop-node
invariant-loop-node l = l.tiers ++ zeros (drop l._node-index l.nodes) ≡ zeros l.nodes
