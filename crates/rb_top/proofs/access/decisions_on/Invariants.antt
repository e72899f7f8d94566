use Rattle.std.proofs.Common.{◌≡◌, take}
use Rattle.rb_top.specs.Table.{told_on}
use Rattle.rb_top.proofs.access.decisions_on.Given as goal

abbrev pub invariant-loop-node : goal.invariant-loop-node
invariant-loop-node l = l.decisions.items ≡ told_on l.access l.user (take l.node-index l.nodes)
