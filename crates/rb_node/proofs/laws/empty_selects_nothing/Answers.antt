use Rattle.rb_node.proofs.Lawful.{empty}
use Rattle.rb_node.proofs.laws.empty_selects_nothing.Goals as goal

pub returns : goal.returns
returns c = empty
