use Rattle.rb_chain.proofs.Asks as law
use Rattle.rb_chain.proofs.laws.ends_soon.Goals as goal

pub returns : goal.returns
returns c = law.ends_soon
