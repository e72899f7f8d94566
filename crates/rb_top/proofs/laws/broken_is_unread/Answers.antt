use Rattle.rb_top.proofs.Unread.{broken_is_unread}
use Rattle.rb_top.proofs.laws.broken_is_unread.Goals as goal

pub returns : goal.returns
returns c = broken_is_unread
