use Rattle.std.proofs.Common.{◌≡◌, ◌≤◌, length, take, reverse, IsCharBoundary}
use Rattle.rb_yaml.specs.Rows.{past_blanks}
use Rattle.rb_yaml.proofs.signs.without_end.Given as goal

-- the text that is left has the same end without its blanks, and may be cut off
abbrev pub invariant-loop-end : goal.invariant-loop-end
invariant-loop-end l = record {
  within : l.end ≤ length l.text;
  same : past_blanks (reverse (take l.end l.text)) ≡ past_blanks (reverse l.text);
  cut : IsCharBoundary l.text l.end;
}

abbrev pub decreases-loop-end : goal.decreases-loop-end
decreases-loop-end l = l.end
