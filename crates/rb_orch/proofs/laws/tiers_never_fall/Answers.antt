use Rattle.rb_orch.proofs.TierLaws.{never_fall}
use Rattle.rb_orch.proofs.laws.tiers_never_fall.Goals as goal

pub returns : goal.returns
returns c = never_fall
