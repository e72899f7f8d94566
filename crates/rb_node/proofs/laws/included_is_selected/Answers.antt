use Rattle.rb_node.proofs.Lawful.{included_law}
use Rattle.rb_node.proofs.laws.included_is_selected.Goals as goal

pub returns : goal.returns
returns c = included_law
