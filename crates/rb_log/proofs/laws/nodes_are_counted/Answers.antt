use Rattle.rb_log.proofs.OrderLaws as law
use Rattle.rb_log.proofs.laws.nodes_are_counted.Goals as goal

pub returns : goal.returns
returns c = law.nodes_are_counted
