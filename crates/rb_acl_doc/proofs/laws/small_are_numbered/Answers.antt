use Rattle.rb_acl_doc.proofs.Numbered.{small_are_numbered}
use Rattle.rb_acl_doc.proofs.laws.small_are_numbered.Goals as goal

pub returns : goal.returns
returns c = small_are_numbered
