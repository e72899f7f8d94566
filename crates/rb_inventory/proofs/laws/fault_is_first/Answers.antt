use Rattle.rb_inventory.proofs.FirstFaults.{fault_is_first_law}
use Rattle.rb_inventory.proofs.laws.fault_is_first.Goals as goal

pub returns : goal.returns
returns c = fault_is_first_law
