use Rattle.rb_wire.proofs.Sights.{full_breaks}
use Rattle.rb_wire.proofs.seen.see_part.Goals as goal

pub returns-else-bytes-lt-MOST_HEAD_BYTES : goal.returns-else-bytes-lt-MOST_HEAD_BYTES
returns-else-bytes-lt-MOST_HEAD_BYTES c =
    λ spans. full_breaks c.args.bytes.now c.requires c.if-bytes-lt-MOST_HEAD_BYTES.false
