-- The row of a run names that run, or the tick that fired it.
use Rattle.std.proofs.Common.{◌≡◌, ◌∙◌, ℤ, true, sym}
use Rattle.rb_log.specs.LogState.{log_state}
use Rattle.rb_log.specs.Rows.{is_clean_caller, row_caller}
use Rattle.rb_log.specs.declared.call.Call.{Call}
use Rattle.rb_log.specs.declared.call.Call.TheVariants.{Run, Tick}
use Rattle.rb_node.specs.Filters.{IsReadFilter}
use Rattle.rb_plan.specs.declared.world.RunAsk.{RunAsk}
use Rattle.rb_runs.specs.Naming.{ask_as}
use Rattle.rb_desk.proofs.Named.{caller_named, decided_now, due_named, handed_on, names_by, unnamed}
use Rattle.rb_desk.proofs.judging.accept_change.Goals as goal

pub changed-requires : goal.changed-requires
changed-requires c =
    let t = c.requires.tabled in
    let at = c.args.row.now.at in (
      t.0,
      Tick at,
      decided_now t.0 Tick at c.tick.result c.requires.at (c.tick.ensures t.0 t.1),
    )

pub returns-then-is_some : goal.returns-then-is_some
returns-then-is_some c past tabled is =
    let row = c.args.row.now in
    let asks = rw (c.in-Some.is, c.as_str.ensures) at c.in_ok-asked.ensures in
    names_by past row (Tick row.at) c.changed.result
    (due_named (log_state past) row c.in-Some.asked is asks
    (sym c.is_some.ensures ∙ c.if-is_some.true)) c.requires.at tt
    (c.changed.ensures past (Tick row.at)
    (decided_now past Tick row.at c.tick.result c.requires.at (c.tick.ensures past tabled)))

pub returns-in_err-caller : goal.returns-in_err-caller
returns-in_err-caller c past tabled is =
    let row = c.args.row.now in
    let asked = c.in-Some.asked in
    let asks = rw (c.in-Some.is, c.as_str.ensures) at c.in_ok-asked.ensures in
    let call : Call = Run (row_caller row) (ask_as row.name asked).0 row.at in
    handed_on past row c.from_residual-in_err-caller.result c.in_err-caller.field-0.0
    c.from_residual-in_err-caller.ensures.1
    (unnamed past row call (is_clean_caller (row_caller row) ≡ true) c.in_err-caller.field-0.0
    (caller_named (log_state past) row asked is asks
    (sym c.is_some.ensures ∙ c.if-is_some.false)) (λ may formed. may.1) c.in_err-caller.ensures)

pub returns-in_err-filter_of : goal.returns-in_err-filter_of
returns-in_err-filter_of c past tabled is =
    let row = c.args.row.now in
    let asked = c.in-Some.asked in
    let asks = rw (c.in-Some.is, c.as_str.ensures) at c.in_ok-asked.ensures in
    let call : Call = Run (row_caller row) (ask_as row.name asked).0 row.at in
    handed_on past row c.from_residual-in_err-filter_of.result c.in_err-filter_of.field-0.0
    c.from_residual-in_err-filter_of.ensures.1
    (unnamed past row call (IsReadFilter asked.filter) c.in_err-filter_of.field-0.0
    (caller_named (log_state past) row asked is asks
    (sym c.is_some.ensures ∙ c.if-is_some.false)) (λ may formed. formed)
    c.in_err-filter_of.ensures)

pub changed-requires-2 : goal.changed-requires-2
changed-requires-2 c =
    let t = c.requires.tabled in
    let at = c.args.row.now.at in
    let ask : RunAsk = record {
      job = c.in_ok-copy.field-0;
      given = c.given.inside.items.items;
      filter = c.in_ok-filter_of.field-0;
    } in
    let call : ℤ → Call = Run c.in_ok-caller.caller ask in (
      t.0,
      call at,
      decided_now t.0 call at c.run.result c.requires.at
          (c.run.ensures t.0 t.1 c.in_ok-caller.ensures.1),
    )

pub returns : goal.returns
returns c past tabled is =
    let row = c.args.row.now in
    let asked = c.in-Some.asked in
    let asks = rw (c.in-Some.is, c.as_str.ensures) at c.in_ok-asked.ensures in
    let ask : RunAsk = record {
      job = c.in_ok-copy.field-0;
      given = c.given.inside.items.items;
      filter = c.in_ok-filter_of.field-0;
    } in
    let read : ℤ → Call = Run c.in_ok-caller.caller ask in
    let call : Call = Run (row_caller row) (ask_as row.name asked).0 row.at in
    names_by past row call c.changed-2.result
    (caller_named (log_state past) row asked is asks
    (sym c.is_some.ensures ∙ c.if-is_some.false))
    (c.requires.at, rw c.in_ok-caller.ensures.0 at c.in_ok-caller.ensures.1)
    c.in_ok-filter_of.ensures.1
    (c.changed-2.ensures past call
    (rw (
      c.in_ok-caller.ensures.0,
      c.in_ok-copy.ensures,
      c.given.view_is,
      c.in_ok-filter_of.ensures.0,
    ) at (decided_now past read row.at c.run.result c.requires.at
    (c.run.ensures past tabled c.in_ok-caller.ensures.1))))
