use Rattle.rb_top.proofs.Unread.{first_unread_is_told}
use Rattle.rb_top.proofs.laws.first_unread_is_told.Goals as goal

pub returns : goal.returns
returns c = first_unread_is_told
