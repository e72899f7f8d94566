-- The row that a record adds is of a kind of its call.
use Rattle.std.proofs.Common.{◌≡◌, ◌∙◌, ◌≤◌, ◌<◌, ◌+◌, ◌-◌, ◌||◌, ℕ, ℤ, List, [], ◌∷◌, ◌++◌, length, take, get_or, if◌then◌else◌, Bool, true, false, Option, Some, None, Result, Ok, Err, option_to_list, slice_get, unwrap_or, ap, sym, subst, refl, arith, inl, inr, length-append, append-nil}
use Rattle.std.proofs.lemmas.Bool.{false≢true}
use Rattle.std.proofs.lemmas.List.{get_or-append-add, get_or-take, length-take-le}
use Rattle.std.proofs.lemmas.Option.{get_or_from_slice_get}
use Rattle.rb_causes.specs.declared.row.Row.{Row}
use Rattle.rb_marks.specs.First.{first_startable}
use Rattle.rb_marks.specs.declared.mark.Leaf.{Leaf}
use Rattle.rb_plan.specs.Acceptance.{Acceptance}
use Rattle.rb_plan.specs.declared.accepted.Dropped.{Dropped}
use Rattle.rb_plan.specs.declared.refusal.Refusal.{Refusal}
use Rattle.rb_log.specs.Asks.{scheduled_ask}
use Rattle.rb_log.specs.Claims.{claim_among, claimed, is_closed, refused_again, reported_end_row, taken, task_of}
use Rattle.rb_log.specs.Executions.{Execution}
use Rattle.rb_log.specs.LogState.{LogState, execution_at, log_state, moment, running_executions}
use Rattle.rb_log.specs.Looks.{look_at}
use Rattle.rb_log.specs.Moves.{Moved, only}
use Rattle.rb_log.specs.Readings.{Reading}
use Rattle.rb_log.specs.Records.{Follows, IsTrueAnswer, Record, StaysAtFault, before_record, is_save, turn_at, without_kept}
use Rattle.rb_log.specs.Rows.{is_abort, is_accept, is_begin, is_close, is_end, is_jobs, is_nodes, is_policy, is_skipped, is_withdraw, is_zone}
use Rattle.rb_log.specs.Runs.{verdict_at}
use Rattle.rb_log.specs.Steps.{BeginsAreTasks, RowsAreOfCalls, is_row_of}
use Rattle.rb_log.specs.Tasks.{DoneValue, TaskValue}
use Rattle.rb_log.specs.Ticks.{DueJob, first_due, tick_by, tick_on}
use Rattle.rb_log.specs.Turn.{turn_of, unlimited_turn}
use Rattle.rb_log.specs.declared.answer.Answer.{Answer}
use Rattle.rb_log.specs.declared.answer.Answer.TheVariants as answer
use Rattle.rb_log.specs.declared.call.Call.{Call}
use Rattle.rb_log.specs.declared.call.Call.TheVariants as call
use Rattle.rb_log.proofs.EndLaws.{kind_is}
use Rattle.rb_log.proofs.MomentLaws.{look_adds_none, not_some, run_row_by}
use Rattle.rb_log.proofs.TaskLaws.{is_task}
use Rattle.rb_log.proofs.TaskRows.{claim_turn}
use Rattle.rb_log.proofs.TurnLaws.{IsTaken, abort_row_is, claim_row_is, jobs_row_is, limited_row, nodes_row_is, policy_row_is, zone_row_is}

-- ---- the row of a turn

fired_by : (s : LogState) (now : ℤ) (d : DueJob) (verdict : Result Acceptance Refusal) (row : Row)
    → (tick_by s now d verdict).row ≡ Some row → (is_accept row || is_skipped row) ≡ true
fired_by s now d (Ok accepted) row h =
    ap (λ o. is_accept (unwrap_or o row) || is_skipped (unwrap_or o row)) (sym h)
fired_by s now d (Err refusal) row h =
    ap (λ o. is_accept (unwrap_or o row) || is_skipped (unwrap_or o row)) (sym h)

fired_on : (s : LogState) (now : ℤ) (due : Option DueJob) (row : Row)
    → (tick_on s now due).row ≡ Some row → (is_accept row || is_skipped row) ≡ true
fired_on s now None row h = absurd (grind (arith, h))
fired_on s now (Some d) row h =
    fired_by s now d (verdict_at s d.held.importer (scheduled_ask d.held.id)) row h

taken_is : (s : LogState) (now : ℤ) (worker : ℕ) (row : Row) → IsTaken s now worker row
    → (is_begin row || is_withdraw row) ≡ true
taken_is s now worker row (inl is) = ap (λ r. is_begin r || is_withdraw r) is.2
taken_is s now worker row (inr is) = ap (λ r. is_begin r || is_withdraw r) is.2

reported_is : (now : ℤ) (done : DoneValue) (found : Option Execution) (row : Row)
    → reported_end_row now done found ≡ Some row → is_end row ≡ true
reported_is now done None row h = absurd (grind (arith, h))
reported_is now done (Some e) row h = ap (λ o. is_end (unwrap_or o row)) (sym h)

turn_kind : (reading : Reading) (s : LogState) (c : Call) (row : Row)
    → (unlimited_turn reading s c).row ≡ Some row → is_row_of c row ≡ true
turn_kind reading s (call.ImportZone name rule at) row h =
    ap is_zone (zone_row_is s (moment s at) name rule row h).1
turn_kind reading s (call.ImportNodes project body at) row h =
    ap is_nodes (nodes_row_is s (moment s at) project body row h).1
turn_kind reading s (call.ImportPolicy caller checked name body at) row h =
    ap is_policy (policy_row_is reading s (moment s at) caller checked name body row h).1
turn_kind reading s (call.ImportJobs caller checked project body at) row h =
    ap is_jobs (jobs_row_is reading s (moment s at) caller checked project body row h).1
turn_kind reading s (call.Run caller ask at) row h =
    ap is_accept (run_row_by s (moment s at) caller ask (verdict_at s caller ask) row h).1
turn_kind reading s (call.Abort caller execution at) row h =
    ap is_abort (abort_row_is s (moment s at) caller execution row h)
turn_kind reading s (call.Tick at) row h =
    fired_on s (moment s at) (first_due s (moment s at)) row h
turn_kind reading s (call.Claim worker at) row h =
    taken_is s (moment s at) worker row (claim_row_is s (moment s at) worker row h)
turn_kind reading s (call.Report done at) row h =
    reported_is (moment s at) done (execution_at s done.claimed.execution) row h
turn_kind reading s (call.CloseDoor door at) row h =
    ap (λ o. is_close (unwrap_or o row)) (sym h)
turn_kind reading s (call.Look caller l) row h =
    absurd (not_some (look_at s caller l).row row (look_adds_none s caller l) h)
turn_kind reading s call.Save row h = absurd (grind (arith, h))

-- ---- the row of a record

-- what stands behind the first rows, where one was added to them or none
added_is : (log : List Row) (before after : ℕ) (o : Option Row) (row : Row) → before < after
    → after ≤ length log → take after log ≡ take before log ++ option_to_list o
    → slice_get log (after - 1) ≡ Some row → o ≡ Some row
added_is log before after None row grew within is there =
    let same : length (take after log) ≡ length (take before log) =
    ap length (is ∙ append-nil (take before log)) in
    absurd (omega (
      arith,
      grew,
      within,
      same,
      length-take-le after log within,
      length-take-le before log (omega (arith, grew, within)),
    ))
added_is log before after (Some x) row grew within is there =
    let old : length (take before log) ≡ before =
    length-take-le before log (omega (arith, grew, within)) in
    let one : after ≡ before + 1 =
    sym (length-take-le after log within) ∙ ap length is
    ∙ length-append (take before log) (x ∷ []) ∙ ap (λ n. n + 1) old in
    let place : after - 1 ≡ length (take before log) + 0 = omega (arith, one, old) in
    let low : after - 1 < after = omega (arith, grew) in
    ap Some (
    sym (get_or-append-add (take before log) (x ∷ []) 0 row)
    ∙ ap (λ n. get_or (take before log ++ x ∷ []) n row) (sym place)
    ∙ ap (λ rows. get_or rows (after - 1) row) (sym is)
    ∙ get_or-take after log (after - 1) row low
    ∙ get_or_from_slice_get log (after - 1) row row there
    )

module _ (log : List Row) (room : ℕ) (r : Record) (row : Row) (grew : r.before < r.after)
    (within : r.after ≤ length log) (there : slice_get log (r.after - 1) ≡ Some row) where
  kind_followed : Follows log room r → is_row_of r.call row ≡ true
  kind_followed f =
      let m = turn_at f.reading log room r in
      let added = added_is log r.before r.after m.row row grew within f.rows there in
      turn_kind f.reading (log_state (before_record log r)) r.call row
      (limited_row (log_state (before_record log r)) room
      (unlimited_turn f.reading (log_state (before_record log r)) r.call) row added)

  kind_at_fault : (save : Bool) → StaysAtFault save log room r → is_row_of r.call row ≡ true
  kind_at_fault true h = let same = h.same in absurd (omega (arith, grew, same))
  kind_at_fault false h = let same = h.same in absurd (omega (arith, grew, same))

  kind_answered : (a : Answer) → IsTrueAnswer a log room r → is_row_of r.call row ≡ true
  kind_answered answer.NoMemory h = let same = h.same in absurd (omega (arith, grew, same))
  kind_answered answer.StoreFault h = kind_at_fault (is_save r.call) h
  kind_answered other h = kind_followed h

pub rows_are_of_calls : RowsAreOfCalls
rows_are_of_calls log room r row is grew there =
    kind_answered log room r row grew is.within.1 there r.answer is.answer

-- ---- the row of a task

abbrev IsTask : Answer → Type 0
IsTask a = (t : TaskValue) × (a ≡ answer.Task t)

task_taken : (s : LogState) (e : Execution) (now : ℤ) (worker : ℕ) (leaf : Leaf)
    (refused : List Dropped) (row : Row) → is_begin row ≡ true
    → (taken s e now worker leaf refused).row ≡ Some row
    → IsTask (taken s e now worker leaf refused).answer
task_taken s e now worker leaf [] row begins h = (task_of e leaf worker, refl)
task_taken s e now worker leaf (d ∷ ds) row begins h =
    absurd (false≢true (ap (λ o. is_begin (unwrap_or o row)) h ∙ begins))

task_claimed : (s : LogState) (e : Execution) (now : ℤ) (worker : ℕ) (leaf : Option Leaf)
    (later : Moved) (row : Row) → is_begin row ≡ true
    → (later.row ≡ Some row → IsTask later.answer)
    → (claimed s e now worker leaf later).row ≡ Some row
    → IsTask (claimed s e now worker leaf later).answer
task_claimed s e now worker None later row begins k h = k h
task_claimed s e now worker (Some leaf) later row begins k h =
    task_taken s e now worker leaf (refused_again s e leaf) row begins h

task_among : (s : LogState) (now : ℤ) (worker : ℕ) (es : List Execution) (row : Row)
    → is_begin row ≡ true → (claim_among s now worker es).row ≡ Some row
    → IsTask (claim_among s now worker es).answer
task_among s now worker [] row begins h = absurd (grind (arith, h))
task_among s now worker (e ∷ es) row begins h =
    task_claimed s e now worker (first_startable e.accepted.plan e.marks)
    (claim_among s now worker es) row begins (task_among s now worker es row begins) h

task_if : (b : Bool) (m : Moved) (row : Row) → (m.row ≡ Some row → IsTask m.answer)
    → (if b then only answer.Closed else m).row ≡ Some row
    → IsTask (if b then only answer.Closed else m).answer
task_if true m row k h = absurd (grind (arith, h))
task_if false m row k h = k h

abbrev GivesBegin : Row → Moved → Type 0
GivesBegin row m = m.row ≡ Some row → IsTask m.answer

task_given : (reading : Reading) (past : List Row) (room worker : ℕ) (at : ℤ) (row : Row)
    → is_begin row ≡ true → GivesBegin row (turn_of reading past room (call.Claim worker at))
task_given reading past room worker at row begins =
    let s = log_state past in
    subst (GivesBegin row) (sym (claim_turn s room at worker))
    (task_if (is_closed s) (claim_among s (moment s at) worker (running_executions s)) row
    (task_among s (moment s at) worker (running_executions s) row begins))

-- of all calls only a claim adds a Begin
claims_begin : (c : Call) (row : Row) → row.kind ≡ 8 → is_row_of c row ≡ true
    → (worker : ℕ) × (at : ℤ) × (c ≡ call.Claim worker at)
claims_begin (call.Claim worker at) row kind h = (worker, at, refl)
claims_begin other row kind h =
    absurd (false≢true (sym (ap (λ n. is_row_of other (record row { kind = n })) kind) ∙ h))

-- what became of the append is told of no task
task_kept : (a : Answer) (t : TaskValue) → without_kept a ≡ answer.Task t → a ≡ answer.Task t
task_kept (answer.Reported kept) t h = absurd (false≢true (ap is_task h))
task_kept (answer.DoorClosed kept) t h = absurd (false≢true (ap is_task h))
task_kept other t h = h

-- a claim that was answered with a task
abbrev IsGivenTask : Record → Type 0
IsGivenTask r =
    (worker : ℕ) × (at : ℤ) × (t : TaskValue)
    × (r.call ≡ call.Claim worker at) × (r.answer ≡ answer.Task t)

module _ (log : List Row) (room : ℕ) (r : Record) (row : Row) (grew : r.before < r.after)
    (within : r.after ≤ length log) (there : slice_get log (r.after - 1) ≡ Some row)
    (begins : is_begin row ≡ true) where
  task_followed : Follows log room r → IsGivenTask r
  task_followed f =
      let past = before_record log r in
      let added = added_is log r.before r.after (turn_at f.reading log room r).row row grew within
      f.rows there in
      let claims = claims_begin r.call row (kind_is row 8 begins)
      (kind_followed log room r row grew within there f) in
      let gives : GivesBegin row (turn_at f.reading log room r) =
      subst (λ c. GivesBegin row (turn_of f.reading past room c)) (sym claims.2)
      (task_given f.reading past room claims.0 claims.1 row begins) in
      let task = gives added in
      (claims.0, claims.1, task.0, claims.2, task_kept r.answer task.0 (f.says ∙ task.1))

  task_at_fault : (save : Bool) → StaysAtFault save log room r → IsGivenTask r
  task_at_fault true h = let same = h.same in absurd (omega (arith, grew, same))
  task_at_fault false h = let same = h.same in absurd (omega (arith, grew, same))

  task_answered : (a : Answer) → IsTrueAnswer a log room r → IsGivenTask r
  task_answered answer.NoMemory h = let same = h.same in absurd (omega (arith, grew, same))
  task_answered answer.StoreFault h = task_at_fault (is_save r.call) h
  task_answered other h = task_followed h

pub begins_are_tasks : BeginsAreTasks
begins_are_tasks log room r row is grew there begins =
    task_answered log room r row grew is.within.1 there begins r.answer is.answer
