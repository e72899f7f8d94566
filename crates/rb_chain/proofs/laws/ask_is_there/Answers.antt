use Rattle.rb_chain.proofs.Asks as law
use Rattle.rb_chain.proofs.laws.ask_is_there.Goals as goal

pub returns : goal.returns
returns c = law.ask_is_there
