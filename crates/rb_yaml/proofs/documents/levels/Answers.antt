use Rattle.std.proofs.Common.{refl}
use Rattle.rb_yaml.specs.Documents.{levels}
use Rattle.rb_yaml.proofs.documents.levels.Goals as goal

pub returns : goal.returns
unfolding levels
returns c = refl
