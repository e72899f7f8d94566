use Rattle.rb_node.proofs.Lawful.{selected_law}
use Rattle.rb_node.proofs.laws.selected_is_included.Goals as goal

pub returns : goal.returns
returns c = selected_law
