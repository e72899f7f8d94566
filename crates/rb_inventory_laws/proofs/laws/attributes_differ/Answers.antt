use Rattle.rb_inventory_laws.proofs.Apart.{read_attributes_differ}
use Rattle.rb_inventory_laws.proofs.laws.attributes_differ.Goals as goal

pub returns : goal.returns
returns c = read_attributes_differ
