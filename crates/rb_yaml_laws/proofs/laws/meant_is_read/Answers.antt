use Rattle.rb_yaml_laws.proofs.DocFacts.{meant_is_read}
use Rattle.rb_yaml_laws.proofs.laws.meant_is_read.Goals as goal

pub returns : goal.returns
returns c = meant_is_read
