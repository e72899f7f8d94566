use Rattle.rb_yaml_laws.proofs.SizeFacts.{size_is_bounded}
use Rattle.rb_yaml_laws.proofs.laws.size_is_bounded.Goals as goal

pub returns : goal.returns
returns c = size_is_bounded
