use Rattle.rb_inventory.proofs.Lawful.{names_differ_law}
use Rattle.rb_inventory.proofs.laws.names_differ.Goals as goal

pub returns : goal.returns
returns c = names_differ_law
