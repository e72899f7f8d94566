use Rattle.std.proofs.Common.{◌≡◌, length}
use Rattle.rb_serve_tests.proofs.playing.spawners.Given as goal

-- so many spawners are there
abbrev pub invariant-loop-number : goal.invariant-loop-number
invariant-loop-number l = length l.spawners.items ≡ l._number
