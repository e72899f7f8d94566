use Rattle.rb_yaml_laws.proofs.DocFacts.{one_reading}
use Rattle.rb_yaml_laws.proofs.laws.one_reading.Goals as goal

pub returns : goal.returns
returns c = one_reading
