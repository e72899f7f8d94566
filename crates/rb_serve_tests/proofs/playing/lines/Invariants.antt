use Rattle.std.proofs.Common.{◌≡◌, length}
use Rattle.rb_serve_tests.proofs.playing.lines.Given as goal

-- so many lines are there
abbrev pub invariant-loop-number : goal.invariant-loop-number
invariant-loop-number l = length l.lines.items ≡ l.number
