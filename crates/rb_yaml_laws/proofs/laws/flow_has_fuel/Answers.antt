use Rattle.rb_yaml_laws.proofs.FlowTurns.{flow_fuel}
use Rattle.rb_yaml_laws.proofs.laws.flow_has_fuel.Goals as goal

pub returns : goal.returns
returns c = flow_fuel
