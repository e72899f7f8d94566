use Rattle.rb_yaml_laws.proofs.PrefixDocs.{lines_before_hold}
use Rattle.rb_yaml_laws.proofs.laws.lines_before_hold.Goals as goal

pub returns : goal.returns
returns c = lines_before_hold
