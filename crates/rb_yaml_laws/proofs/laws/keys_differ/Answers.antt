use Rattle.rb_yaml_laws.proofs.ApartFacts.{keys_differ}
use Rattle.rb_yaml_laws.proofs.laws.keys_differ.Goals as goal

pub returns : goal.returns
returns c = keys_differ
