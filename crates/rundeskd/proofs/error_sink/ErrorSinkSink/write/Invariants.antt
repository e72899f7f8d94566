use Rattle.std.proofs.Common.{◌≡◌}
use Rattle.rundeskd.proofs.error_sink.ErrorSinkSink.write.Given as goal

-- a write that is tried again is no fault
abbrev pub invariant-loop : goal.invariant-loop
invariant-loop l = l.self.faults ≡ l.fn.self.faults
