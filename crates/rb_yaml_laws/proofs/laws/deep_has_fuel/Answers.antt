use Rattle.rb_yaml_laws.proofs.DeepFacts.{deep_fuel}
use Rattle.rb_yaml_laws.proofs.laws.deep_has_fuel.Goals as goal

pub returns : goal.returns
returns c = deep_fuel
