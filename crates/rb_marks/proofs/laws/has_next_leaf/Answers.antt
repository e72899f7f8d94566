use Rattle.rb_marks.proofs.Next as next
use Rattle.rb_marks.proofs.laws.has_next_leaf.Goals as goal

pub returns : goal.returns
returns c = next.has_next_leaf
