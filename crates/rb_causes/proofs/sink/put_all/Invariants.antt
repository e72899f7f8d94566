use Rattle.std.proofs.Common.{◌≤◌, ◌-◌, take, length}
use Rattle.rb_causes.specs.Sinks.{Wrote}
use Rattle.rb_causes.proofs.sink.put_all.Given as goal

-- the first bytes were written
abbrev pub invariant-loop-done : goal.invariant-loop-done
invariant-loop-done g l = record {
  fits : l.done ≤ length l.bytes;
  wrote : Wrote (take l.done l.bytes) (g.O.Sink.shown l.fn.out) (g.O.Sink.shown l.out);
}

abbrev pub decreases-loop-done : goal.decreases-loop-done
decreases-loop-done g l = length l.bytes - l.done
