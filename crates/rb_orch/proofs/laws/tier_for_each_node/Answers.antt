use Rattle.rb_orch.proofs.TierLaws.{tier_for_each}
use Rattle.rb_orch.proofs.laws.tier_for_each_node.Goals as goal

pub returns : goal.returns
returns c = tier_for_each
