use Rattle.std.proofs.Common.{◌≡◌}
use Rattle.rb_log.specs.Sums.{numbers_below}
use Rattle.rb_changes.proofs.opening.numbers_below.Given as goal

-- the numbers so far
abbrev pub invariant-loop-number : goal.invariant-loop-number
invariant-loop-number l = l.numbers.items ≡ numbers_below l.number
