use Rattle.std.proofs.Common.{◌-◌, replicate}
use Rattle.rb_causes.specs.Signs.{space}
use Rattle.rb_canon.proofs.SoFar.{SoFar}
use Rattle.rb_canon.proofs.puts.put_blanks.Given as goal

abbrev pub invariant-loop : goal.invariant-loop
invariant-loop l =
    SoFar (replicate l.fn.count space) (replicate (l.count - l.counter) space) l.fn.out.items l.out.items
