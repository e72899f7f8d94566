use Rattle.rb_wire.proofs.Sights.{cut_below, whole_at}
use Rattle.rb_wire.proofs.seen.see_size.Goals as goal

pub returns-then-bytes-total : goal.returns-then-bytes-total
returns-then-bytes-total c = cut_below _ _ _ _ c.requires c.if-bytes-total.true

pub returns-else-bytes-total : goal.returns-else-bytes-total
returns-else-bytes-total c = whole_at _ _ _ _ c.requires c.if-bytes-total.false
