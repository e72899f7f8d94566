use Rattle.rb_inventory.proofs.Lawful.{nodes_are_few_law}
use Rattle.rb_inventory.proofs.laws.nodes_are_few.Goals as goal

pub returns : goal.returns
returns c = nodes_are_few_law
