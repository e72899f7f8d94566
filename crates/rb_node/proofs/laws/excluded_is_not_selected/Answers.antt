use Rattle.rb_node.proofs.Lawful.{excluded_law}
use Rattle.rb_node.proofs.laws.excluded_is_not_selected.Goals as goal

pub returns : goal.returns
returns c = excluded_law
