use Rattle.rb_orch.proofs.SubsetLaws.{has_count}
use Rattle.rb_orch.proofs.laws.subset_has_count.Goals as goal

pub returns : goal.returns
returns c = has_count
