use Rattle.rb_option.proofs.Settled.{enforced_is_listed}
use Rattle.rb_option.proofs.laws.enforced_is_listed.Goals as goal

pub returns : goal.returns
returns c = enforced_is_listed
