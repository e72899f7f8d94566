use Rattle.rb_log.proofs.OrderLaws as law
use Rattle.rb_log.proofs.laws.names_ascend.Goals as goal

pub returns : goal.returns
returns c = law.names_ascend
