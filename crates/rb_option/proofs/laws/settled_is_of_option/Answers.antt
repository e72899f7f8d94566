use Rattle.rb_option.proofs.Settled.{settled_is_of_option}
use Rattle.rb_option.proofs.laws.settled_is_of_option.Goals as goal

pub returns : goal.returns
returns c = settled_is_of_option
