use Rattle.rb_orch.proofs.TierLaws.{follow_values}
use Rattle.rb_orch.proofs.laws.tiers_follow_values.Goals as goal

pub returns : goal.returns
returns c = follow_values
