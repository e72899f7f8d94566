use Rattle.std.proofs.Common.{◌≡◌, ◌∙◌, List, Some, None, FitsSigned, false, not, rules, to_z, of_z, w64, ap, sym, arith}
use Rattle.std.specs.List.{list_any}
use Rattle.std.proofs.lemmas.Int.{to_z-of_z}
use Rattle.std.proofs.lemmas.Bool.{not-true}
use Rattle.rb_causes.specs.declared.row.Row.{Row}
use Rattle.rb_marks.specs.First.{stops}
use Rattle.rb_marks.specs.declared.mark.Status.{Status}
use Rattle.rb_log.specs.Executions.{Execution, is_running}
use Rattle.rb_log.specs.LogState.{log_state, moment, moment_by}
use Rattle.rb_log.specs.Moves.{Moved}
use Rattle.rb_log.specs.Rows.{abort_row}
use Rattle.rb_log.specs.Sums.{open_leaves}
use Rattle.rb_log.specs.declared.answer.Answer.TheVariants as answer
use Rattle.rb_log.specs.declared.call.Call.TheVariants as call
use Rattle.rb_runs.specs.Aborting.{IsKnownAt}
use Rattle.rb_tables.specs.Running.{aborted_status}
use Rattle.rb_tables.specs.Tables.{IsEntry, IsTabled}
use Rattle.rb_runs.proofs.Aborts.{aborts, any_reading, err_decided, must_true, not_first, not_known, not_permitted, not_running}
use Rattle.rb_tables.proofs.OpenStatus.{aborted_is}
use Rattle.rb_tables.proofs.Saying.{desk_low, read_is}
use Rattle.rb_runs.proofs.aborting.abort.Goals as goal
use Rattle.rb_runs.proofs.aborting.abort.Goals.{In_ok-place, After-as_str}

known_at : (c : In_ok-place) (past : List Row) → IsTabled c.args.tables.now past
    → IsKnownAt past c.args.execution c.in_ok-place.place
known_at c past tabled = c.in_ok-place.ensures past tabled

same_at : (c : After-as_str) (past : List Row) → IsTabled c.args.tables.now past
    → (at : IsKnownAt past c.args.execution c.in_ok-place.place)
    → IsEntry c.index-found.result.now at.execution
same_at c past tabled at =
    read_is c.args.tables.now past tabled.says c.in_ok-place.place at.execution at.found
    c.index-found.result.now c.index-found.ensures

-- the job that was asked for
job_at : (c : After-as_str) (past : List Row) → IsTabled c.args.tables.now past
    → (at : IsKnownAt past c.args.execution c.in_ok-place.place)
    → at.execution.accepted.job ≡ c.as_str.result.now
job_at c past tabled at =
    ap (λ (z : Execution). z.accepted.job) (sym (same_at c past tabled at).is.same)
    ∙ sym c.as_str.ensures

pub index-found-requires : goal.index-found-requires
index-found-requires c =
    let at = known_at c c.requires.0 c.requires.1 in
    let low = desk_low c.args.tables.now c.requires.0 c.requires.1.says c.in_ok-place.place
    at.execution at.found in
    omega (arith, low, c.args.tables.now.executions.ok.0)

pub may_act_on-requires : goal.may_act_on-requires
may_act_on-requires c = c.requires.1.says.numbered

pub must_run-requires : goal.must_run-requires
must_run-requires c =
    let at = known_at (goal.at.must_run-requires c).In_ok-place c.requires.0 c.requires.1 in
    desk_low c.args.tables.now c.requires.0 c.requires.1.says c.in_ok-place.place at.execution
    at.found

pub returns-in_err-place : goal.returns-in_err-place
returns-in_err-place c past tabled =
    err_decided past (call.Abort c.args.caller c.args.execution c.args.at)
    c.from_residual.result c.in_err-place.field-0.0 c.from_residual.ensures.1
    (not_known past c.args.caller c.args.execution c.args.at c.in_err-place.field-0.0
    (c.in_err-place.ensures past tabled))

pub returns-in_err-may_act_on : goal.returns-in_err-may_act_on
returns-in_err-may_act_on c past tabled =
    let at = known_at (goal.at.returns-in_err-may_act_on c).In_ok-place past tabled in
    let job = job_at (goal.at.returns-in_err-may_act_on c).After-as_str past tabled at in
    err_decided past (call.Abort c.args.caller c.args.execution c.args.at)
    c.from_residual-in_err-may_act_on.result c.in_err-may_act_on.field-0.0
    c.from_residual-in_err-may_act_on.ensures.1
    (not_permitted past c.args.caller c.args.execution c.args.at at.execution at.known_as
    c.in_err-may_act_on.field-0.0 (c.in_err-may_act_on.ensures past at.execution tabled job))

pub returns-in_err-must_run : goal.returns-in_err-must_run
returns-in_err-must_run c past tabled =
    let at = known_at (goal.at.returns-in_err-must_run c).In_ok-place past tabled in
    let job = job_at (goal.at.returns-in_err-must_run c).After-as_str past tabled at in
    err_decided past (call.Abort c.args.caller c.args.execution c.args.at)
    c.from_residual-in_err-must_run.result c.in_err-must_run.field-0.0
    c.from_residual-in_err-must_run.ensures.1
    (not_running past c.args.caller c.args.execution c.args.at at.execution at.known_as
    (c.in_ok-may_act_on.ensures past at.execution tabled job)
    c.in_err-must_run.field-0.0
    (c.in_err-must_run.ensures past at.execution tabled at.found))

pub returns-in_err-must_go_on : goal.returns-in_err-must_go_on
returns-in_err-must_go_on c past tabled =
    let at = known_at (goal.at.returns-in_err-must_go_on c).In_ok-place past tabled in
    let before = (goal.at.returns-in_err-must_go_on c).After-as_str in
    let job = job_at before past tabled at in
    err_decided past (call.Abort c.args.caller c.args.execution c.args.at)
    c.from_residual-in_err-must_go_on.result c.in_err-must_go_on.field-0.0
    c.from_residual-in_err-must_go_on.ensures.1
    (not_first past c.args.caller c.args.execution c.args.at at.execution at.known_as
    (c.in_ok-may_act_on.ensures past at.execution tabled job)
    (c.in_ok-must_run.ensures past at.execution tabled at.found)
    c.in_err-must_go_on.field-0.0
    (c.in_err-must_go_on.ensures at.execution (same_at before past tabled at).is
    (must_true (is_running at.execution) answer.Ended
    (c.in_ok-must_run.ensures past at.execution tabled at.found))))

pub returns : goal.returns
returns c past tabled =
    let s = log_state past in
    let at = known_at (goal.at.returns c).In_ok-place past tabled in
    let before = (goal.at.returns c).After-as_str in
    let e : Execution = at.execution in
    let job = job_at before past tabled at in
    let runs = c.in_ok-must_run.ensures past e tabled at.found in
    let first = c.in_ok-must_go_on.ensures e (same_at before past tabled at).is
    (must_true (is_running e) answer.Ended runs) in
    let goes_on : list_any stops e.marks ≡ false =
    not-true (list_any stops e.marks) (must_true (not (list_any stops e.marks)) answer.Aborting
    first) in
    let status = aborted_is c.log_laws.ensures past c.in_ok-place.place e tabled.legal at.found
    goes_on
    ∙ ap (λ n. aborted_status n (open_leaves past)) at.named
    ∙ ap (aborted_status c.args.execution) (sym tabled.says.leaves)
    ∙ sym c.aborted_status.ensures in
    let fits : FitsSigned w64 c.moment.result = search rules in
    let now : to_z w64 (of_z w64 c.moment.result) ≡ moment s c.args.at =
    to_z-of_z w64 c.moment.result fits
    ∙ c.moment.ensures
    ∙ ap (moment_by c.args.tables.now.last) (to_z-of_z w64 c.args.at c.ranges.at)
    ∙ ap (λ last. moment_by last c.args.at) tabled.says.last in
    let row : c.in_ok-abort_row.field-0
    ≡ abort_row (moment s c.args.at) c.args.execution c.args.caller =
    c.in_ok-abort_row.ensures
    ∙ ap (λ t. abort_row t c.args.execution c.args.caller) now in
    let given : Status → Row → Moved = λ st r. record {
      answer = answer.Aborted st;
      row = Some r;
      need = None;
    } in (
      record {
        reading = any_reading;
        may_read = tt;
        says = aborts past c.args.caller c.args.execution c.args.at e at.known_as
            (c.in_ok-may_act_on.ensures past e tabled job) runs first
            ∙ ap (λ st. given st (abort_row (moment s c.args.at) c.args.execution c.args.caller))
            status
            ∙ ap (given c.aborted_status.result) (sym row);
      },
      record {
        kind = ap (λ (r : Row). r.kind) row;
        execution = e;
        at = record { found = at.found; named = at.named ∙ sym (ap (λ (r : Row). r.a) row) };
        runs = must_true (is_running e) answer.Ended runs;
        goes_on = goes_on;
      },
    )
