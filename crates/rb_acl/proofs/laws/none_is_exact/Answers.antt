use Rattle.rb_acl.proofs.Firsts.{none}
use Rattle.rb_acl.proofs.laws.none_is_exact.Goals as goal

pub returns : goal.returns
returns c = none
