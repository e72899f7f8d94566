use Rattle.std.proofs.Common.{◌≡◌, ◌≤◌, ◌-◌, take, length}
use Rattle.httparse.specs.Grammar.{HasNoRequest}
use Rattle.rb_wire.specs.Heads.{most_head_bytes}
use Rattle.rb_wire.specs.Reading.{Gains}
use Rattle.rb_wire.proofs.reader.read_line.Given as goal

-- the bytes that are known hold no head
abbrev pub invariant-loop-known : goal.invariant-loop-known
invariant-loop-known g l =
    let line = g.L.Line in
    record {
      gains : Gains (line.callers l.fn.line) (line.callers l.line) l.fn.buffer l.buffer;
      none : HasNoRequest (take l.known l.buffer.bytes);
      within : l.known ≤ length l.buffer.bytes;
      grown : length l.fn.buffer.bytes ≤ l.known;
      faults : line.faults l.line ≡ line.faults l.fn.line;
    }

abbrev pub decreases-loop-known : goal.decreases-loop-known
decreases-loop-known g l = most_head_bytes - length l.buffer.bytes
