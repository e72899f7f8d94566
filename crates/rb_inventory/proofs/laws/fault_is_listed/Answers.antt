use Rattle.rb_inventory.proofs.Lawful.{fault_is_listed_law}
use Rattle.rb_inventory.proofs.laws.fault_is_listed.Goals as goal

pub returns : goal.returns
returns c = fault_is_listed_law
