use Rattle.rb_acl_doc.proofs.Told.{no_flaw, told_is_foremost}
use Rattle.rb_acl_doc.proofs.laws.foremost_is_told.Goals as goal

pub returns : goal.returns
returns c = record { told = told_is_foremost; none = no_flaw }
