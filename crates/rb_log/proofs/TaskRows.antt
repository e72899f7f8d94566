-- A turn that gives a task adds the Begin of that task.
use Rattle.std.proofs.Common.{◌≡◌, ◌∙◌, ℕ, ℤ, List, Bool, true, false, Some, slice_get, length, ap, sym, subst, refl, inl, inr, if◌then◌else◌}
use Rattle.std.proofs.lemmas.Bool.{false≢true}
use Rattle.rb_causes.specs.declared.row.Row.{Row}
use Rattle.rb_causes.proofs.Lists.{from_filter}
use Rattle.rb_log.specs.Readings.{Reading}
use Rattle.rb_log.specs.Rows.{begin_row}
use Rattle.rb_log.specs.Executions.{Execution, executions, is_running, leaf_of}
use Rattle.rb_log.specs.LogState.{LogState, log_state, moment, running_executions}
use Rattle.rb_log.specs.Moves.{Moved, limited, only}
use Rattle.rb_log.specs.Claims.{claim, claim_among, execution_words, is_closed, leaf_number_in, task_of}
use Rattle.rb_log.specs.Laws.{PlansAreSound, SlotsAreBounded}
use Rattle.rb_log.specs.Legal.{IsLegalLog}
use Rattle.rb_log.specs.Steps.{IsBegunTask, TasksAreBegun}
use Rattle.rb_log.specs.Tasks.{TaskValue}
use Rattle.rb_log.specs.Turn.{turn_of}
use Rattle.rb_log.specs.declared.answer.Answer.TheVariants as answer
use Rattle.rb_log.specs.declared.call.Call.TheVariants as call
use Rattle.rb_log.proofs.ClaimLaws.{Gives, GivesTask, among_gives}
use Rattle.rb_log.proofs.EndLaws.{at_behind, found_at}
use Rattle.rb_log.proofs.RightLaws.{among_need, if_need, unlimited}
use Rattle.rb_log.proofs.RowLaws.{leaf_is_kept}
use Rattle.rb_log.proofs.TaskLaws.{is_task, task_or, turn_claims}

-- ---- what gives a task

given_by : (s : LogState) (es : List Execution) (at : ℤ) (worker : ℕ) (m : Moved) (t : TaskValue)
    → Gives s es at worker m → m.answer ≡ answer.Task t → GivesTask s es at worker m
given_by s es at worker m t (inl g) h = g
given_by s es at worker m t (inr (inl g)) h =
    absurd (false≢true (sym (ap (λ (x : Moved). is_task x.answer) g.moved) ∙ ap is_task h))
given_by s es at worker m t (inr (inr g)) h =
    absurd (false≢true (sym (ap (λ (x : Moved). is_task x.answer) g.0) ∙ ap is_task h))

open_given : (s : LogState) (es : List Execution) (at : ℤ) (worker : ℕ) (closed : Bool) (m : Moved)
    (t : TaskValue) → Gives s es at worker m
    → (if closed then only answer.Closed else m).answer ≡ answer.Task t
    → GivesTask s es at worker (if closed then only answer.Closed else m)
open_given s es at worker true m t g h = absurd (false≢true (ap is_task h))
open_given s es at worker false m t g h = given_by s es at worker m t g h

-- ---- the task and its row

leaf_back : SlotsAreBounded → PlansAreSound → (past : List Row) → IsLegalLog past → (at : ℤ)
    (worker : ℕ) (m : Moved)
    → (g : GivesTask (log_state past) (running_executions (log_state past)) at worker m)
    → leaf_of g.execution (leaf_number_in g.execution g.leaf) ≡ g.leaf
leaf_back slots plans past legal at worker m g =
    let e = g.execution in
    let there : slice_get (running_executions (log_state past)) (length g.is.earlier) ≡ Some e =
    ap (λ xs. slice_get xs (length g.is.earlier)) g.is.all
    ∙ at_behind g.is.earlier g.is.later e in
    let j = from_filter is_running (executions past) (length g.is.earlier) e there in
    leaf_is_kept e.accepted.plan.slots g.leaf
    (slots e.accepted.plan e.marks g.leaf (plans past j.0 e legal j.1) g.is.first)

begun_task : SlotsAreBounded → PlansAreSound → (past : List Row) → IsLegalLog past → (at : ℤ)
    (worker : ℕ) (m : Moved) (t : TaskValue)
    → (g : GivesTask (log_state past) (running_executions (log_state past)) at worker m)
    → m.answer ≡ answer.Task t
    → (row : Row) × (m.row ≡ Some row) × IsBegunTask past t row
begun_task slots plans past legal at worker m t g h =
    let e = g.execution in
    let there : slice_get (running_executions (log_state past)) (length g.is.earlier) ≡ Some e =
    ap (λ xs. slice_get xs (length g.is.earlier)) g.is.all
    ∙ at_behind g.is.earlier g.is.later e in
    let j = from_filter is_running (executions past) (length g.is.earlier) e there in
    let back = leaf_back slots plans past legal at worker m g in
    let same : t ≡ task_of e g.leaf worker =
    ap (task_or t) (sym h ∙ ap (λ (x : Moved). x.answer) g.moved) in (
      begin_row at e.number (leaf_number_in e g.leaf) worker,
      ap (λ (x : Moved). x.row) g.moved,
      record {
        execution = e;
        begins = refl;
        found = found_at past j.0 e j.1;
        claimed = ap (λ (x : TaskValue). x.claimed) same
            ∙ ap (λ l. record { execution = e.number; leaf = l; worker = worker }) (sym back);
        words = ap (λ (x : TaskValue). x.words) same ∙ ap (execution_words e) (sym back);
      },
    )

-- ---- of a turn

-- a turn of a claim is not limited
pub claim_turn : (s : LogState) (room : ℕ) (at : ℤ) (worker : ℕ)
    → limited s room (claim s (moment s at) worker) ≡ claim s (moment s at) worker
claim_turn s room at worker =
    let now = moment s at in
    unlimited s room (claim s now worker)
    (if_need (is_closed s) (claim_among s now worker (running_executions s))
    (among_need s now worker (running_executions s)))

abbrev HasBegun : List Row → TaskValue → Moved → Type 0
HasBegun past t m = (row : Row) × (m.row ≡ Some row) × IsBegunTask past t row

claim_begun : SlotsAreBounded → PlansAreSound → (past : List Row) (room : ℕ) (reading : Reading)
    (worker : ℕ) (at : ℤ) (t : TaskValue) → IsLegalLog past
    → (turn_of reading past room (call.Claim worker at)).answer ≡ answer.Task t
    → HasBegun past t (turn_of reading past room (call.Claim worker at))
claim_begun slots plans past room reading worker at t legal h =
    let s = log_state past in
    let now = moment s at in
    let turn = claim_turn s room at worker in
    let gave : (claim s now worker).answer ≡ answer.Task t =
    subst (λ (m : Moved). m.answer ≡ answer.Task t) turn h in
    let g = open_given s (running_executions s) now worker (is_closed s)
    (claim_among s now worker (running_executions s)) t
    (among_gives s now worker (running_executions s)) gave in
    subst (HasBegun past t) (sym turn)
    (begun_task slots plans past legal now worker (claim s now worker) t g gave)

pub tasks_are_begun : SlotsAreBounded → PlansAreSound → TasksAreBegun
tasks_are_begun slots plans past room c reading t asked h =
    let claimed = turn_claims reading (log_state past) room c t h in
    let gave : (turn_of reading past room (call.Claim claimed.0 claimed.1)).answer
    ≡ answer.Task t =
    subst (λ x. (turn_of reading past room x).answer ≡ answer.Task t) claimed.2 h in
    subst (λ x. HasBegun past t (turn_of reading past room x)) (sym claimed.2)
    (claim_begun slots plans past room reading claimed.0 claimed.1 t asked.legal gave)
