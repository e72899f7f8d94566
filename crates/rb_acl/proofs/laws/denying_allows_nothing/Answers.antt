use Rattle.rb_acl.proofs.Adding.{denying_allows_nothing}
use Rattle.rb_acl.proofs.laws.denying_allows_nothing.Goals as goal

pub returns : goal.returns
returns c = denying_allows_nothing
