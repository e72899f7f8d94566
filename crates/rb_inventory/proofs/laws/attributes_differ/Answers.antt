use Rattle.rb_inventory.proofs.Keys.{attributes_differ_law}
use Rattle.rb_inventory.proofs.laws.attributes_differ.Goals as goal

pub returns : goal.returns
returns c = attributes_differ_law
