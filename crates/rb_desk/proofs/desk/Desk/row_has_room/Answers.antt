use Rattle.std.proofs.Common.{◌≡◌, ◌∙◌, ◌+◌, ◌-◌, ◌^◌, min, ap, sym, reverse, length, arith}
use Rattle.std.proofs.lemmas.List.{length-reverse}
use Rattle.rb_log.specs.Rows.{counted_bytes}
use Rattle.rb_log.specs.LogState.{log_state}
use Rattle.rb_desk.proofs.Fitting.{fits_by}
use Rattle.rb_desk.proofs.desk.Desk.row_has_room.Goals as goal

pub returns-then-asked-self-clause-fits : goal.returns-then-asked-self-clause-fits
returns-then-asked-self-clause-fits g c =
    let log = c.self.inside.ledger.log in
    let past = reverse log in
    let tabled = c.self.invariant.1 in
    let rows : length c.log.result.now ≡ length past =
    ap length c.log.ensures ∙ sym (length-reverse log) in
    rw (← c.self.view_is, c.in-Some.is)
    (fits_by (log_state past) c.self.inside.room c.in-Some.need c.args.row.now
    (length c.log.result.now + c.owed.result) c.saturating_add-asked.result
    c.saturating_add-counted.result
    (omega (arith, rows, c.owed.ensures past tabled)) c.if-asked-self.true
    c.self.invariant.0.bounded
    (c.saturating_add-asked.ensures
    ∙ ap (λ n. min (n + c.in-Some.need) (2 ^ 64 - 1)) c.saturating_add.ensures)
    (c.saturating_add-counted.ensures
    ∙ ap (λ n. min (c.self.inside.tables.counted + n) (2 ^ 64 - 1)) c.counted_bytes.ensures
    ∙ ap (λ n. min (n + min (counted_bytes c.args.row.now) (2 ^ 64 - 1)) (2 ^ 64 - 1))
    tabled.says.counted))
