use Rattle.rb_demo.proofs.PoliciesRead.{policies_read}
use Rattle.rb_demo.proofs.laws.policies_are_read.Goals as goal

pub returns : goal.returns
returns c = policies_read
