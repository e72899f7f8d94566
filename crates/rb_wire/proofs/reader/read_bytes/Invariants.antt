use Rattle.std.proofs.Common.{◌≡◌, ◌-◌, length}
use Rattle.rb_wire.specs.Reading.{Gains}
use Rattle.rb_wire.proofs.reader.read_bytes.Given as goal

abbrev pub invariant-loop-buffer : goal.invariant-loop-buffer
invariant-loop-buffer g l =
    let line = g.L.Line in
    record {
      gains : Gains (line.callers l.fn.line) (line.callers l.line) l.fn.buffer l.buffer;
      faults : line.faults l.line ≡ line.faults l.fn.line;
    }

abbrev pub decreases-loop-buffer : goal.decreases-loop-buffer
decreases-loop-buffer g l = l.total - length l.buffer.bytes
