use Rattle.rb_yaml_laws.proofs.OrderFacts.{foremost_is_told}
use Rattle.rb_yaml_laws.proofs.laws.foremost_is_told.Goals as goal

pub returns : goal.returns
returns c = foremost_is_told
