use Rattle.rb_node.proofs.Lawful.{sure_law}
use Rattle.rb_node.proofs.laws.sure_is_not_bad.Goals as goal

pub returns : goal.returns
returns c = sure_law
