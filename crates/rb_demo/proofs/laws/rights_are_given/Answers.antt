use Rattle.rb_demo.proofs.RightsGiven.{rights_given}
use Rattle.rb_demo.proofs.laws.rights_are_given.Goals as goal

pub returns : goal.returns
returns c = rights_given
