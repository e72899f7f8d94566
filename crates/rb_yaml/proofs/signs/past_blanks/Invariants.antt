use Rattle.std.proofs.Common.{◌≡◌, ◌≤◌, ◌-◌, length, drop, IsCharBoundary}
use Rattle.rb_yaml.specs.Rows.{past_blanks}
use Rattle.rb_yaml.proofs.signs.past_blanks.Given as goal

-- the text that is left may be cut off, and has the same without its blanks
abbrev pub invariant-loop-at : goal.invariant-loop-at
invariant-loop-at l = record {
  within : l.at ≤ length l.text;
  same : past_blanks (drop l.at l.text) ≡ past_blanks l.text;
  cut : IsCharBoundary l.text l.at;
}

abbrev pub decreases-loop-at : goal.decreases-loop-at
decreases-loop-at l = length l.text - l.at
