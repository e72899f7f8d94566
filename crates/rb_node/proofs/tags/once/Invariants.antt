use Rattle.std.proofs.Common.{◌≡◌}
use Rattle.rb_causes.specs.SeenTexts.{HasSeen}
use Rattle.rb_node.specs.Tags.{once}
use Rattle.rb_node.proofs.tags.once.Given as goal

-- the set holds the texts that are kept
abbrev pub invariant-loop-text : goal.invariant-loop-text
invariant-loop-text l = record {
  seen : HasSeen l.seen l.kept;
  kept : l.kept ≡ once l.yielded;
}
