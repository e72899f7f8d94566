use Rattle.std.proofs.Common.{◌≡◌, ◌-◌, length}
use Rattle.rb_wire.specs.Reading.{Gains}
use Rattle.rb_wire.specs.Seeing.{most_request_bytes}
use Rattle.rb_wire.proofs.reader.read_request.Given as goal

abbrev pub invariant-loop-parts : goal.invariant-loop-parts
invariant-loop-parts g l =
    let line = g.L.Line in
    record {
      gains : Gains (line.callers l.fn.line) (line.callers l.line) l.fn.buffer l.buffer;
      faults : line.faults l.line ≡ line.faults l.fn.line;
    }

abbrev pub decreases-loop-parts : goal.decreases-loop-parts
decreases-loop-parts g l = most_request_bytes - length l.buffer.bytes
