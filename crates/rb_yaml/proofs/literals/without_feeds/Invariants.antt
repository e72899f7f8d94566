use Rattle.std.proofs.Common.{◌≡◌, ◌≤◌, length, take, reverse, IsCharBoundary}
use Rattle.rb_yaml.specs.Literals.{past_feeds}
use Rattle.rb_yaml.proofs.literals.without_feeds.Given as goal

-- the text that is left has the same end without its line feeds, and may be cut off
abbrev pub invariant-loop-end : goal.invariant-loop-end
invariant-loop-end l = record {
  within : l.end ≤ length l.text;
  same : past_feeds (reverse (take l.end l.text)) ≡ past_feeds (reverse l.text);
  cut : IsCharBoundary l.text l.end;
}

abbrev pub decreases-loop-end : goal.decreases-loop-end
decreases-loop-end l = l.end
