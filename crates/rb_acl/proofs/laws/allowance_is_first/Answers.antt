use Rattle.rb_acl.proofs.Firsts.{allowance}
use Rattle.rb_acl.proofs.laws.allowance_is_first.Goals as goal

pub returns : goal.returns
returns c = allowance
