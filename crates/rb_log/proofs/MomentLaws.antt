-- Each row of a legal log is at a moment of a clock, and no earlier than the rows before it.
use Rattle.std.proofs.Common.{◌≡◌, ◌∙◌, ℕ, ℤ, pos, Bool, true, false, nat_eq, ◌||◌, Option, Some, None, Result, Ok, Err, is_some, codes, unwrap_or, ap, sym, refl, arith, inl, inr, if◌then◌else◌}
use Rattle.rb_causes.specs.declared.row.Row.{Row}
use Rattle.rb_yaml.specs.Faults.{◌>>=◌}
use Rattle.rb_acl.specs.declared.policy.Caller.{Caller}
use Rattle.rb_plan.specs.Acceptance.{Acceptance}
use Rattle.rb_plan.specs.declared.refusal.Refusal.{Refusal}
use Rattle.rb_plan.specs.declared.world.RunAsk.{RunAsk}
use Rattle.rb_log.specs.Readings.{Reading}
use Rattle.rb_log.specs.Rows.{is_opened, is_zone, is_nodes, is_jobs, is_policy, is_accept, is_skipped, is_abort, is_begin, is_end, is_close, is_withdraw, accept_row}
use Rattle.rb_log.specs.Asks.{DueAsk, ask_of, ask_text}
use Rattle.rb_log.specs.World.{latest_nodes}
use Rattle.rb_log.specs.Executions.{Execution}
use Rattle.rb_log.specs.LogState.{LogState, log_state, execution_at, nodes_number, moment}
use Rattle.rb_log.specs.Moves.{Moved, must, moved_or, access_in, permitted_on_kind}
use Rattle.rb_log.specs.Runs.{run_by, verdict_at, next_number, known, may_act_on}
use Rattle.rb_log.specs.Ticks.{first_due}
use Rattle.rb_log.specs.Claims.{reported_end_row}
use Rattle.rb_log.specs.Looks.{look_at}
use Rattle.rb_log.specs.Tasks.{DoneValue}
use Rattle.rb_log.specs.Turn.{unlimited_turn}
use Rattle.rb_log.specs.Legal.{IsAdded, ComesBy, call_named, run_named, report_named, open_leaf}
use Rattle.rb_log.specs.Restarts.{MomentsAscend}
use Rattle.rb_log.specs.declared.answer.Answer.{Answer}
use Rattle.rb_log.specs.declared.answer.Answer.TheVariants as answer
use Rattle.rb_log.specs.declared.call.Call.{Call}
use Rattle.rb_log.specs.declared.call.Call.TheVariants as call
use Rattle.rb_log.specs.declared.call.Look.{Look}
use Rattle.rb_log.specs.declared.call.Look.TheVariants as look
use Rattle.rb_log.specs.declared.task.OpenLeaf.{OpenLeaf}
use Rattle.rb_log.proofs.FiredRows.{at_on}
use Rattle.rb_log.proofs.TurnLaws.{IsTaken, zone_row_is, nodes_row_is, policy_row_is, jobs_row_is, abort_row_is, claim_row_is}

-- ---- the row of a run

-- an Accept of this ask by this caller
abbrev pub IsAccept : LogState → ℤ → Caller → RunAsk → Row → Type 0
IsAccept s now caller ask row =
    (nodes : ℕ)
    × (row ≡ accept_row now (next_number s) s.policy_number nodes ask.job caller
    (ask_text ask None))

pub run_row_by : (s : LogState) (now : ℤ) (caller : Caller) (ask : RunAsk)
    (v : Result Acceptance Refusal) (row : Row) → (run_by s now caller ask v).row ≡ Some row
    → IsAccept s now caller ask row
run_row_by s now caller ask (Ok accepted) row h =
    (nodes_number s accepted.project, sym (ap (λ o. unwrap_or o row) h))
run_row_by s now caller ask (Err refusal) row h = absurd (grind (arith, h))

-- ---- a look adds no row

no_row : {A : Type 0} (r : Result A Answer) (f : A → Result Moved Answer)
    → ((x : A) → (moved_or (f x)).row ≡ None) → (moved_or (r >>= f)).row ≡ None
no_row (Ok x) f h = h x
no_row (Err a) f h = refl

pub look_adds_none : (s : LogState) (caller : Caller) (l : Look) → (look_at s caller l).row ≡ None
look_adds_none s caller (look.Execution number) =
    no_row (known s number) _ (λ e. no_row (may_act_on s caller (codes "read") e) _ (λ x. refl))
look_adds_none s caller (look.State number) =
    no_row (known s number) _ (λ e. no_row (may_act_on s caller (codes "read") e) _ (λ x. refl))
look_adds_none s caller (look.Jobs project) =
    no_row (must (is_some (latest_nodes project s.projects)) answer.NoProject) _ (λ x. refl)
look_adds_none s caller (look.Resources project) =
    no_row (must (is_some (latest_nodes project s.projects)) answer.NoProject) _ (λ x.
    no_row (permitted_on_kind (access_in s project caller) (codes "read") (codes "node")) _
    (λ y. refl))
look_adds_none s caller (look.Executions project most offset wanted) =
    no_row (must (is_some (latest_nodes project s.projects)) answer.NoProject) _ (λ x. refl)

pub not_some : (o : Option Row) (row : Row) → o ≡ None → o ≡ Some row → ⊥
not_some None row h k = grind (arith, k)
not_some (Some x) row h k = grind (arith, h)

-- ---- the moment of a call, and of the row that it adds

-- a look and a save are at no moment
abbrev call_at : Call → ℤ
call_at (call.ImportZone name rule at) = at
call_at (call.ImportNodes project body at) = at
call_at (call.ImportPolicy caller checked name body at) = at
call_at (call.ImportJobs caller checked project body at) = at
call_at (call.Run caller ask at) = at
call_at (call.Abort caller execution at) = at
call_at (call.Tick at) = at
call_at (call.Claim worker at) = at
call_at (call.Report done at) = at
call_at (call.CloseDoor door at) = at
call_at (call.Look caller l) = pos 0
call_at call.Save = pos 0

taken_at : (s : LogState) (now : ℤ) (worker : ℕ) (row : Row) → IsTaken s now worker row
    → row.at ≡ now
taken_at s now worker row (inl is) = ap (λ (r : Row). r.at) is.2
taken_at s now worker row (inr is) = ap (λ (r : Row). r.at) is.2

report_at : (now : ℤ) (done : DoneValue) (found : Option Execution) (row : Row)
    → reported_end_row now done found ≡ Some row → row.at ≡ now
report_at now done None row h = absurd (grind (arith, h))
report_at now done (Some e) row h = sym (ap (λ o. (unwrap_or o row).at) h)

turn_at : (reading : Reading) (s : LogState) (c : Call) (row : Row)
    → (unlimited_turn reading s c).row ≡ Some row → row.at ≡ moment s (call_at c)
turn_at reading s (call.ImportZone name rule at) row h =
    ap (λ (r : Row). r.at) (zone_row_is s (moment s at) name rule row h).1
turn_at reading s (call.ImportNodes project body at) row h =
    ap (λ (r : Row). r.at) (nodes_row_is s (moment s at) project body row h).1
turn_at reading s (call.ImportPolicy caller checked name body at) row h =
    ap (λ (r : Row). r.at) (policy_row_is reading s (moment s at) caller checked name body row h).1
turn_at reading s (call.ImportJobs caller checked project body at) row h =
    ap (λ (r : Row). r.at) (jobs_row_is reading s (moment s at) caller checked project body row h).1
turn_at reading s (call.Run caller ask at) row h =
    ap (λ (r : Row). r.at)
    (run_row_by s (moment s at) caller ask (verdict_at s caller ask) row h).1
turn_at reading s (call.Abort caller execution at) row h =
    ap (λ (r : Row). r.at) (abort_row_is s (moment s at) caller execution row h)
turn_at reading s (call.Tick at) row h =
    at_on s (moment s at) (first_due s (moment s at)) row h
turn_at reading s (call.Claim worker at) row h =
    taken_at s (moment s at) worker row (claim_row_is s (moment s at) worker row h)
turn_at reading s (call.Report done at) row h =
    report_at (moment s at) done (execution_at s done.claimed.execution) row h
turn_at reading s (call.CloseDoor door at) row h = sym (ap (λ o. (unwrap_or o row).at) h)
turn_at reading s (call.Look caller l) row h =
    absurd (not_some (look_at s caller l).row row (look_adds_none s caller l) h)
turn_at reading s call.Save row h = absurd (grind (arith, h))

-- ---- a row names a call at its own moment

abbrev IsAt : ℤ → Option Call → Type 0
IsAt at None = Unit {0}
IsAt at (Some c) = call_at c ≡ at

run_named_at : (row : Row) (ask : Option DueAsk) → IsAt row.at (run_named row ask)
run_named_at row None = tt
run_named_at row (Some (ask, None)) = refl
run_named_at row (Some (ask, Some due)) = refl

report_named_at : (row : Row) (found : Option OpenLeaf) → IsAt row.at (report_named row found)
report_named_at row None = tt
report_named_at row (Some claimed) = refl

if_at : (at : ℤ) (b : Bool) (c : Call) (other : Option Call) → call_at c ≡ at → IsAt at other
    → IsAt at (if b then Some c else other)
if_at at true c other h k = h
if_at at false c other h k = k

one_at : (at : ℤ) (b : Bool) (one other : Option Call) → IsAt at one → IsAt at other
    → IsAt at (if b then one else other)
one_at at true one other h k = h
one_at at false one other h k = k

named_at : (s : LogState) (row : Row) → IsAt row.at (call_named s row)
named_at s row =
    if_at row.at (is_zone row) _ _ refl
    (if_at row.at (is_nodes row) _ _ refl
    (if_at row.at (is_jobs row) _ _ refl
    (if_at row.at (is_policy row) _ _ refl
    (one_at row.at (is_accept row) _ _ (run_named_at row (ask_of row.name row.body))
    (if_at row.at (is_skipped row) _ _ refl
    (if_at row.at (is_abort row) _ _ refl
    (if_at row.at (is_begin row) _ _ refl
    (one_at row.at (is_end row) _ _
    (report_named_at row (open_leaf s.leaves row.a row.b (execution_at s row.a)))
    (if_at row.at (is_close row) _ _ refl
    (if_at row.at (is_withdraw row) _ _ refl tt))))))))))

-- ---- legal logs

added_at : (s : LogState) (row : Row) (named : Option Call) → IsAt row.at named
    → IsAdded s row named → moment s row.at ≡ row.at
added_at s row None at h = absurd h
added_at s row (Some c) at h =
    ap (moment s) (sym at) ∙ sym (turn_at h.reading s c row h.added)

comes_at : (s : LogState) (row : Row) (b : Bool) → ComesBy b s row → moment s row.at ≡ row.at
comes_at s row true h = h.later
comes_at s row false h = added_at s row (call_named s row) (named_at s row) h

pub moments_ascend : MomentsAscend
moments_ascend row past legal = (
  legal.1.0,
  comes_at (log_state past) row (is_opened row || nat_eq (log_state past).rows 0) legal.1.1,
)
