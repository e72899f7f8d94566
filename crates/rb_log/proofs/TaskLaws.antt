-- Only a claim gives a task, for its worker; a record adds one row or none; two open leaves of one
-- leaf are one.
use Rattle.std.proofs.Common.{◌≡◌, ◌∙◌, ℕ, ℤ, List, [], ◌∷◌, ◌++◌, length, take, reverse, Bool, true, false, Option, Some, None, option_to_list, length-append, append-nil, ap, sym, subst, refl, arith, inl, inr}
use Rattle.std.proofs.Math.Seq.{take-append_seam, take-length}
use Rattle.std.proofs.lemmas.Bool.{false≢true}
use Rattle.std.proofs.lemmas.Option.{slice_get-get_or}
use Rattle.rb_causes.specs.declared.row.Row.{Row}
use Rattle.rb_log.specs.Readings.{Reading}
use Rattle.rb_log.specs.LogState.{LogState, log_state, moment, running_executions}
use Rattle.rb_log.specs.Moves.{Moved, limited}
use Rattle.rb_log.specs.Claims.{claim, claim_among, close_door, is_closed, report}
use Rattle.rb_log.specs.Tasks.{TaskValue}
use Rattle.rb_log.specs.Turn.{unlimited_turn}
use Rattle.rb_log.specs.Legal.{rights_of}
use Rattle.rb_log.specs.Laws.{SlotsAreBounded, PlansAreSound, IsClaimAnswer}
use Rattle.rb_log.specs.Records.{IsTrueAnswer, StaysAtFault, Follows, turn_at, without_kept, is_save}
use Rattle.rb_log.specs.Told.{IsBeginning, record_of}
use Rattle.rb_log.specs.Steps.{IsClaimed, OneRow, OpenOnce, TasksAreClaimed}
use Rattle.rb_log.specs.declared.answer.Answer.{Answer}
use Rattle.rb_log.specs.declared.answer.Answer.TheVariants as answer
use Rattle.rb_log.specs.declared.call.Call.{Call}
use Rattle.rb_log.specs.declared.call.Call.TheVariants as call
use Rattle.rb_log.specs.declared.task.OpenLeaf.{OpenLeaf}
use Rattle.rb_log.proofs.ClaimLaws.{claim_answers}
use Rattle.rb_log.proofs.ReportLaws.{one_each}
use Rattle.rb_log.proofs.RightLaws.{is_common, Harmless, limited_harmless, among_need, if_need, unlimited, zone_harmless, nodes_harmless, policy_harmless, jobs_harmless, run_harmless, abort_harmless, tick_harmless, look_harmless}

-- ---- tasks

abbrev pub task_or : TaskValue → Answer → TaskValue
task_or d (answer.Task t) = t
task_or d other = d

abbrev pub is_task : Answer → Bool
is_task (answer.Task t) = true
is_task other = false

common_none : (c : Call) (a : Answer) → is_common a ≡ true → IsClaimed c a
common_none c a h t is = absurd (false≢true (ap is_common (sym is) ∙ h))

other_none : (c : Call) (a : Answer) → is_task a ≡ false → IsClaimed c a
other_none c a h t is = absurd (false≢true (sym h ∙ ap is_task is))

claimed_by : (s : LogState) (at : ℤ) (worker : ℕ) (a : Answer)
    → IsClaimAnswer s (running_executions s) worker a → IsClaimed (call.Claim worker at) a
claimed_by s at worker a (inl first) t has =
    let same : t ≡ first.0 = ap (task_or t) (sym has ∙ first.1) in
    (worker, at, refl, ap (λ (x : TaskValue). x.claimed.worker) (same ∙ first.2.task))
claimed_by s at worker a (inr (inl refused)) t has =
    other_none (call.Claim worker at) a (ap is_task refused.told) t has
claimed_by s at worker a (inr (inr idle)) t has =
    other_none (call.Claim worker at) a (ap is_task idle.0) t has

answered_by : (s : LogState) (at now : ℤ) (worker : ℕ) (closed : Bool) → is_closed s ≡ closed
    → IsClaimed (call.Claim worker at) (claim s now worker).answer
answered_by s at now worker true is =
    other_none (call.Claim worker at) (claim s now worker).answer
    (ap is_task ((claim_answers s now worker).0 is))
answered_by s at now worker false is =
    claimed_by s at worker (claim s now worker).answer ((claim_answers s now worker).1 is)

limited_common : (s : LogState) (room : ℕ) (c : Call) (m : Moved) → Harmless s m
    → IsClaimed c (limited s room m).answer
limited_common s room c m h =
    common_none c (limited s room m).answer (limited_harmless s room m h).answer

pub turn_claims : (reading : Reading) (s : LogState) (room : ℕ) (c : Call)
    → IsClaimed c (limited s room (unlimited_turn reading s c)).answer
turn_claims reading s room (call.ImportZone name rule at) =
    limited_common s room _ _ (zone_harmless s (moment s at) name rule)
turn_claims reading s room (call.ImportNodes project body at) =
    limited_common s room _ _ (nodes_harmless s (moment s at) project body)
turn_claims reading s room (call.ImportPolicy caller checked file body at) =
    limited_common s room _ _
    (policy_harmless reading s (moment s at) caller checked file body)
turn_claims reading s room (call.ImportJobs caller checked project body at) =
    limited_common s room _ _
    (jobs_harmless reading s (moment s at) caller checked project body)
turn_claims reading s room (call.Run caller ask at) =
    limited_common s room _ _ (run_harmless s (moment s at) caller ask)
turn_claims reading s room (call.Abort caller number at) =
    limited_common s room _ _ (abort_harmless s (moment s at) caller number)
turn_claims reading s room (call.Tick at) =
    limited_common s room _ _ (tick_harmless s (moment s at))
turn_claims reading s room (call.Claim worker at) =
    let now = moment s at in
    subst (λ (m : Moved). IsClaimed (call.Claim worker at) m.answer)
    (sym (unlimited s room (claim s now worker)
    (if_need (is_closed s) (claim_among s now worker (running_executions s))
    (among_need s now worker (running_executions s)))))
    (answered_by s at now worker (is_closed s) refl)
turn_claims reading s room (call.Report done at) =
    other_none _ _ (ap (λ (m : Moved). is_task m.answer)
    (unlimited s room (report s (moment s at) done) refl))
turn_claims reading s room (call.CloseDoor door at) =
    other_none _ _ (ap (λ (m : Moved). is_task m.answer)
    (unlimited s room (close_door s (moment s at) door) refl))
turn_claims reading s room (call.Look caller l) =
    limited_common s room _ _ (look_harmless s caller l)
turn_claims reading s room call.Save = other_none _ _ refl

kept_task : (a : Answer) (t : TaskValue) → a ≡ answer.Task t → without_kept a ≡ answer.Task t
kept_task (answer.Reported k) t h = absurd (false≢true (ap is_task h))
kept_task (answer.DoorClosed k) t h = absurd (false≢true (ap is_task h))
kept_task other t h = h

followed : (log : List Row) (room before : ℕ) (c : Call) (a : Answer)
    → Follows log room (record_of c a before log) → IsClaimed c a
followed log room before c a h t is =
    turn_claims h.reading (log_state (reverse (take before log))) room c t
    (sym h.says ∙ kept_task a t is)

by_answer : (log : List Row) (room before : ℕ) (c : Call) (a : Answer)
    → IsTrueAnswer a log room (record_of c a before log) → IsClaimed c a
by_answer log room before c answer.NoMemory h = other_none c answer.NoMemory refl
by_answer log room before c answer.StoreFault h = other_none c answer.StoreFault refl
by_answer log room before c other h = followed log room before c _ h

pub tasks_are_claimed : TasksAreClaimed
tasks_are_claimed log room before c a h = by_answer log room before c a h.answer

-- ---- a row or none

stays_by : (old new more : List Row) → new ≡ old ++ more → length new ≡ length old → new ≡ old
stays_by old new [] is same = is ∙ append-nil old
stays_by old new (r ∷ more) is same =
    let longer = ap length is in
    let both = length-append old (r ∷ more) in absurd (omega (arith, longer, both, same))

module _ (room : ℕ) (c : Call) (old new : List Row) (log : IsBeginning old new) where
  abbrev HasOneRow : Type 0
  HasOneRow = (row : Option Row) × (new ≡ old ++ option_to_list row)

  stayed : length new ≡ length old → HasOneRow
  stayed same = (None, stays_by old new log.0 log.1 same ∙ sym (append-nil old))

  fault_row : (save : Bool) (a : Answer)
      → StaysAtFault save new room (record_of c a (length old) new) → HasOneRow
  fault_row true a h = stayed h.same
  fault_row false a h = stayed h.same

  prefix : take (length old) new ≡ old
  prefix = ap (λ rows. take (length old) rows) log.1 ∙ take-append_seam old log.0

  follow_row : (a : Answer) → Follows new room (record_of c a (length old) new) → HasOneRow
  follow_row a h = (
    (turn_at h.reading new room (record_of c a (length old) new)).row,
    sym (take-length new) ∙ (h.rows
        ∙ ap (λ rows. rows
        ++ option_to_list (turn_at h.reading new room (record_of c a (length old) new)).row)
        prefix),
  )

  row_by : (a : Answer) → IsTrueAnswer a new room (record_of c a (length old) new) → HasOneRow
  row_by answer.NoMemory h = stayed h.same
  row_by answer.StoreFault h = fault_row (is_save c) answer.StoreFault h
  row_by other h = follow_row _ h

pub one_row : OneRow
one_row room c a old new log h = row_by room c old new log a h.answer

-- ---- open leaves

pub open_once : SlotsAreBounded → PlansAreSound → OpenOnce
open_once slots plans log legal a b h k same =
    let leaves : List OpenLeaf = (rights_of (log_state (reverse log))).leaves in
    one_each slots plans (reverse log) legal h.0 k.0 a b
    (slice_get-get_or leaves h.0 a h.1 ∙ ap Some h.2)
    (slice_get-get_or leaves k.0 b k.1 ∙ ap Some k.2) same
