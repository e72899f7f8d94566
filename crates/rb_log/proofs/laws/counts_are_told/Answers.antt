use Rattle.rb_log.proofs.OrderLaws as law
use Rattle.rb_log.proofs.laws.counts_are_told.Goals as goal

pub returns : goal.returns
returns c = law.counts_are_told
