use Rattle.rb_chain.proofs.Asks as law
use Rattle.rb_chain.proofs.laws.asks_stay.Goals as goal

pub returns : goal.returns
returns c = law.asks_stay
