use Rattle.rb_yaml_laws.proofs.Scanned.{flow_word_is_first}
use Rattle.rb_yaml_laws.proofs.laws.flow_word_is_first.Goals as goal

pub returns : goal.returns
returns c = flow_word_is_first
