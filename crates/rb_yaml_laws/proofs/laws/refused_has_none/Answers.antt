use Rattle.rb_yaml_laws.proofs.DocFacts.{refused_has_none}
use Rattle.rb_yaml_laws.proofs.laws.refused_has_none.Goals as goal

pub returns : goal.returns
returns c = refused_has_none
