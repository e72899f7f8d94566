use Rattle.std.proofs.Common.{◌∙◌, ◌≡◌, ◌≤◌, length, bytes_eq, ap, sym, arith}
use Rattle.rb_tables.proofs.NearIds.{near_same}
use Rattle.rb_tables.proofs.job_id.JobId.is.Goals as goal

pub returns : goal.returns
returns c =
    let one = c.self.inside in
    let other = c.other.inside in
    let short : length one.text ≤ 40 = rw c.as_str-text.ensures at c.if-text-gt-NEAR.false in
    let long : length one.text ≡ length other.text =
    ap length (sym c.as_str-text.ensures) ∙ c.if-text-id.false ∙ ap length c.as_str-id.ensures in
    let same : c.eq-2.result ≡ bytes_eq one.text other.text =
    c.eq-2.ensures
    ∙ near_same one.text other.text one.near other.near long (c.self.invariant short)
    (c.other.invariant (omega arith)) in
    rw (← c.self.view_is, ← c.other.view_is) same
