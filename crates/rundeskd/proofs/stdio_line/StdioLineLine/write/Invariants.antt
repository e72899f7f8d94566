use Rattle.std.proofs.Common.{◌≡◌}
use Rattle.rundeskd.proofs.stdio_line.StdioLineLine.write.Given as goal

-- a call that is tried again is no fault
abbrev pub invariant-loop : goal.invariant-loop
invariant-loop g l = l.self.faults ≡ l.fn.self.faults
