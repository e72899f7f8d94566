use Rattle.rb_orch.proofs.SubsetLaws.{takes_all}
use Rattle.rb_orch.proofs.laws.subset_takes_all.Goals as goal

pub returns : goal.returns
returns c = takes_all
