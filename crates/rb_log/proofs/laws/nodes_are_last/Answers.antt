use Rattle.rb_log.proofs.LatestLaws as law
use Rattle.rb_log.proofs.laws.nodes_are_last.Goals as goal

pub returns : goal.returns
returns c = law.nodes_are_last
