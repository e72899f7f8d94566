use Rattle.rb_acl.proofs.Adding.{denial_stays_in_type}
use Rattle.rb_acl.proofs.laws.denial_stays_in_type.Goals as goal

pub returns : goal.returns
returns c = denial_stays_in_type
