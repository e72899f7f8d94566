-- The row of an abort names that abort.
use Rattle.std.proofs.Common.{ℤ}
use Rattle.rb_log.specs.LogState.{log_state}
use Rattle.rb_log.specs.Rows.{row_caller}
use Rattle.rb_log.specs.declared.call.Call.{Call}
use Rattle.rb_log.specs.declared.call.Call.TheVariants.{Abort}
use Rattle.rb_desk.proofs.Named.{abort_named, decided_now, names_by}
use Rattle.rb_desk.proofs.judging.abort_change.Goals as goal

pub changed-requires : goal.changed-requires
changed-requires c =
    let t = c.requires.tabled in
    let row = c.args.row.now in
    let call : ℤ → Call = Abort c.in_ok-caller.caller row.a in (
      t.0,
      call row.at,
      decided_now t.0 call row.at c.abort.result c.requires.at (c.abort.ensures t.0 t.1),
    )

pub returns : goal.returns
returns c past tabled is =
    let row = c.args.row.now in
    let read : ℤ → Call = Abort c.in_ok-caller.caller row.a in
    let call : Call = Abort (row_caller row) row.a row.at in
    names_by past row call c.changed.result (abort_named (log_state past) row is)
    (c.requires.at, rw c.in_ok-caller.ensures.0 at c.in_ok-caller.ensures.1) tt
    (c.changed.ensures past call (rw c.in_ok-caller.ensures.0
    at (decided_now past read row.at c.abort.result c.requires.at (c.abort.ensures past tabled))))
