use Rattle.rb_demo.proofs.RightsGiven.{even_runnable}
use Rattle.rb_demo.proofs.laws.even_are_runnable.Goals as goal

pub returns : goal.returns
returns c = even_runnable
