use Rattle.std.proofs.Common.{refl}
use Rattle.rb_tables.proofs.job_id.near_of.Goals as goal

pub returns : goal.returns
returns c = λ short.
    rw (c.copy_from_slice.ensures.after, c.as_bytes-bytes.ensures.value) refl
