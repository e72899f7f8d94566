use Rattle.rb_yaml_laws.proofs.DocFacts.{read_is_meant}
use Rattle.rb_yaml_laws.proofs.laws.read_is_meant.Goals as goal

pub returns : goal.returns
returns c = read_is_meant
