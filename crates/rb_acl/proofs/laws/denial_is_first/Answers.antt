use Rattle.rb_acl.proofs.Firsts.{denial}
use Rattle.rb_acl.proofs.laws.denial_is_first.Goals as goal

pub returns : goal.returns
returns c = denial
