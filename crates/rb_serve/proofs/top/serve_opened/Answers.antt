use Rattle.std.proofs.Common.{SFits, arith, inl, inr, refl, w64}
use Rattle.std.proofs.Math.Facts.{to_z-of_z}
use Rattle.rb_tables.specs.Tables.{most_rows}
use Rattle.rb_serve.proofs.Passes.{opened_just}
use Rattle.rb_serve.proofs.Roles.{none_fell}
use Rattle.rb_causes.proofs.Written.{rose_since}
use Rattle.rb_serve.proofs.Statuses.{at_end, end_not_four, end_not_two, unopened_not_five, unopened_not_four, unopened_not_two, unopened_rose, unopened_status}
use Rattle.rb_serve.proofs.Reaching.{asked_is, opens_is}
use Rattle.rb_serve.proofs.top.serve_opened.Goals as goal

pub open-requires-clause-room : goal.open-requires-clause-room
unfolding most_rows
open-requires-clause-room g c = omega arith

pub serve-status-requires-clause-opened : goal.serve-status-requires-clause-opened
serve-status-requires-clause-opened g c κs within =
    opened_just _ _ _ _ _ _ c.in-Ok-open.ensures.ok c.count_of-doors.ensures
    c.count_of-workers.ensures

pub returns-in_default-clause-lines : goal.returns-in_default-clause-lines
returns-in_default-clause-lines g c = none_fell g.L.Line.faults c.args.lines.now.items

pub returns-in_default-clause-spawners : goal.returns-in_default-clause-spawners
returns-in_default-clause-spawners g c =
    none_fell (λ s. (g.S.Spawner.shown s).faults) c.args.spawners.now.items

pub returns-in-Err-clause-lines : goal.returns-in-Err-clause-lines
returns-in-Err-clause-lines g c = none_fell g.L.Line.faults c.args.lines.now.items

pub returns-in-Err-clause-spawners : goal.returns-in-Err-clause-spawners
returns-in-Err-clause-spawners g c =
    none_fell (λ s. (g.S.Spawner.shown s).faults) c.args.spawners.now.items

pub returns-in-Ok-open-clause-status : goal.returns-in-Ok-open-clause-status
returns-in-Ok-open-clause-status g c =
    at_end c.serve-status.result.0 c.serve-status.ensures.status

pub returns-in-Ok-open-clause-form : goal.returns-in-Ok-open-clause-form
returns-in-Ok-open-clause-form g c = λ two.
    absurd (end_not_two c.serve-status.result.0 c.serve-status.ensures.status two)

pub returns-in-Err-clause-status : goal.returns-in-Err-clause-status
returns-in-Err-clause-status g c =
    unopened_status c.tell_unopened.result _ _ _ c.tell_unopened.ensures

pub returns-in-Err-clause-form : goal.returns-in-Err-clause-form
returns-in-Err-clause-form g c = λ two.
    absurd (unopened_not_two c.tell_unopened.result _ _ _ c.tell_unopened.ensures two)

pub returns-in-Err-clause-line : goal.returns-in-Err-clause-line
returns-in-Err-clause-line g c = λ five.
    absurd (unopened_not_five c.tell_unopened.result _ _ _ c.tell_unopened.ensures five)

pub returns-in_default-clause-happened : goal.returns-in_default-clause-happened
returns-in_default-clause-happened g c =
    inl (
      record {
        keeper = c.args.keeper;
        given_is = refl;
        uncalled = record { lines_stand = refl; spawners_stand = refl };
      },
      record { is = refl; told = c.tell_memory.ensures },
    )

pub returns-in-Ok-open-clause-happened : goal.returns-in-Ok-open-clause-happened
unfolding most_rows
returns-in-Ok-open-clause-happened g c =
    let fits : SFits w64 c.now.result = record { sfits = c.now.type_inv } in
    inr (inr (record {
      at = c.now.result;
      moment = c.now.ensures.may_be;
      opened = c.in-Ok-open.desk;
      opens = opens_is g.K.Keeper.rows c.args.keeper c.in-Ok-open.desk _ _ _ _ c.args.draw 2000000
          _ _ c.count_of-doors.ensures c.count_of-workers.ensures (to_z-of_z fits)
          c.in-Ok-open.ensures.ok;
      desk = c.serve-status.result.1;
      given_is = refl;
      serves = c.serve-status.ensures.serves;
    }))

pub returns-in-Err-clause-happened : goal.returns-in-Err-clause-happened
unfolding most_rows
returns-in-Err-clause-happened g c =
    let fits : SFits w64 c.now.result = record { sfits = c.now.type_inv } in
    let keeper = c.in-Err.keeper in
    inr (inl (
      c.in-Err.error,
      (
        record {
          at = c.now.result;
          moment = c.now.ensures.may_be;
          back = keeper;
          given_is = refl;
          cause = asked_is g.K.Keeper.rows g.K.Keeper.faults c.args.keeper keeper
              c.in-Err.error _ _ _ _ c.args.draw 2000000 _ _ c.count_of-doors.ensures
              c.count_of-workers.ensures (to_z-of_z fits) c.in-Err.ensures.cause;
          kept = c.in-Err.ensures.unchanged;
        },
        record {
          keeper = keeper;
          given_is = refl;
          uncalled = record { lines_stand = refl; spawners_stand = refl };
        },
        c.tell_unopened.ensures,
      ),
    ))

pub returns-in-Ok-open-clause-no_shelf : goal.returns-in-Ok-open-clause-no_shelf
returns-in-Ok-open-clause-no_shelf g c = λ four.
    absurd (end_not_four c.serve-status.result.0 c.serve-status.ensures.status four)

pub returns-in-Err-clause-no_shelf : goal.returns-in-Err-clause-no_shelf
returns-in-Err-clause-no_shelf g c = λ four.
    absurd (unopened_not_four c.tell_unopened.result _ _ _ c.tell_unopened.ensures four)

pub returns-in-Ok-open-clause-store : goal.returns-in-Ok-open-clause-store
returns-in-Ok-open-clause-store g c = λ six.
    rose_since (g.K.Keeper.faults c.args.keeper) (g.K.Keeper.faults c.in-Ok-open.desk.keeper)
    (g.K.Keeper.faults c.serve-status.result.1.keeper) c.in-Ok-open.ensures.faults_ok
    (c.serve-status.ensures.store six)

pub returns-in-Err-clause-store : goal.returns-in-Err-clause-store
returns-in-Err-clause-store g c = λ six.
    unopened_rose c.tell_unopened.result _ _ g.K.Keeper.rows g.K.Keeper.faults c.args.keeper
    c.in-Err.keeper c.count_of-doors.result c.count_of-workers.result c.args.draw 2000000
    c.now.result c.in-Err.error c.in-Err.ensures.cause c.tell_unopened.ensures six
