use Rattle.rb_yaml_laws.proofs.OrderFacts.{earliest_is_told}
use Rattle.rb_yaml_laws.proofs.laws.earliest_is_told.Goals as goal

pub returns : goal.returns
returns c = earliest_is_told
