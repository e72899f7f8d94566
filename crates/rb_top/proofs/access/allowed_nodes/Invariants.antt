use Rattle.std.proofs.Common.{◌≡◌, take}
use Rattle.rb_top.specs.Access.{allowed_of}
use Rattle.rb_top.proofs.access.allowed_nodes.Given as goal

abbrev pub invariant-loop-decided : goal.invariant-loop-decided
invariant-loop-decided l = l.allowed ≡ allowed_of (take l.decided-index l.decisions)
