use Rattle.rb_chain.proofs.ChainLaws as law
use Rattle.rb_chain.proofs.laws.flawless_is_read.Goals as goal

pub returns : goal.returns
returns c = law.flawless_is_read
