use Rattle.std.proofs.Common.{◌≡◌}
use Rattle.rb_tcp.proofs.caller.Caller.write.Given as goal

abbrev pub invariant-loop : goal.invariant-loop
invariant-loop g l = l.self.ended ≡ l.fn.self.ended
