use Rattle.std.proofs.Common.{◌≡◌, ◌∷◌, drop}
use Rattle.rb_marks.specs.Sound.{never_fall}
use Rattle.rb_marks.proofs.soundness.never_fall.Given as goal

abbrev pub invariant-loop-tier : goal.invariant-loop-tier
invariant-loop-tier l = never_fall (l.before ∷ drop l.tier-index l.tiers) ≡ never_fall l.tiers
