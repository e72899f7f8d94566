use Rattle.std.proofs.Common.{drop}
use Rattle.rb_canon.specs.Layout.{escapes}
use Rattle.rb_canon.proofs.SoFar.{SoFar}
use Rattle.rb_canon.proofs.puts.put_escaped.Given as goal

abbrev pub invariant-loop-byte : goal.invariant-loop-byte
invariant-loop-byte l =
    SoFar (escapes l.fn.text) (escapes (drop l.byte-index l.text)) l.fn.out.items l.out.items
