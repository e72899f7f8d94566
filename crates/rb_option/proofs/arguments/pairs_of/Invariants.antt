use Rattle.std.proofs.Common.{◌≡◌, ◌≤◌, ◌+◌, ◌-◌, drop, length}
use Rattle.rb_option.specs.Arguments.{pairs_from, pairs_onto}
use Rattle.rb_option.proofs.arguments.pairs_of.Given as goal

-- the pairs so far, with those of the words that are left, are all
abbrev pub invariant-loop-at : goal.invariant-loop-at
invariant-loop-at l = record {
  within : l.at ≤ length l.words;
  pairs : pairs_onto l.pairs (pairs_from (l.at + 1) (drop l.at l.words)) ≡ pairs_from 1 l.words;
}

abbrev pub decreases-loop-at : goal.decreases-loop-at
decreases-loop-at l = length l.words - l.at
