use Rattle.rb_acl.proofs.Adding.{denial_stays}
use Rattle.rb_acl.proofs.laws.denial_stays.Goals as goal

pub returns : goal.returns
returns c = denial_stays
