-- A run that is asked for is decided as the rules say, and an execution that began is one of the
-- tables.
use Rattle.std.proofs.Common.{◌≡◌, ◌∙◌, ◌<◌, ◌+◌, ◌*◌, ◌^◌, ◌++◌, ◌||◌, ℕ, ℤ, List, [], ◌∷◌, length, nat_eq, Bool, true, false, Option, Some, None, Ok, Err, IsTrue, ap, sym, subst, refl, arith, if◌then◌else◌}
use Rattle.rb_causes.specs.declared.row.Row.{Row}
use Rattle.rb_acl.specs.declared.policy.Caller.{Caller}
use Rattle.rb_plan.specs.Acceptance.{Acceptance}
use Rattle.rb_plan.specs.Verdict.{verdict_of}
use Rattle.rb_plan.specs.declared.refusal.Refusal.{Refusal}
use Rattle.rb_plan.specs.declared.refusal.Refusal.TheVariants as refusals
use Rattle.rb_plan.specs.declared.world.RunAsk.{RunAsk}
use Rattle.rb_plan.specs.declared.world.World.{World}
use Rattle.rb_log.specs.Asks.{ask_of, ask_text, is_due_ask}
use Rattle.rb_log.specs.Executions.{Execution as LoggedExecution, executions, started, started_if, asked, draw_of}
use Rattle.rb_log.specs.Legal.{IsLegalLog, IsOpening, ComesBy}
use Rattle.rb_log.specs.LogState.{LogState, log_state, world_of, moment, moment_by, nodes_number}
use Rattle.rb_log.specs.Moves.{only}
use Rattle.rb_log.specs.Readings.{Reading}
use Rattle.rb_log.specs.Rows.{is_opened, is_clean_caller, accept_row}
use Rattle.rb_log.specs.Runs as rule
use Rattle.rb_log.specs.Runs.{next_execution, next_number, run_accepted, run_by, verdict_at}
use Rattle.rb_log.specs.Sums.{leaf_count}
use Rattle.rb_log.specs.World.{latest_of, count_of, projects_at}
use Rattle.rb_log.specs.declared.answer.Answer.TheVariants as answer
use Rattle.rb_log.specs.declared.call.Call.TheVariants as calls
use Rattle.rb_runs.specs.Asking.{BeginsExecution, begun_outcome, fired_id}
use Rattle.rb_runs.specs.RunLaws.{RunLaws}
use Rattle.rb_runs.proofs.Changed.{moved_is}
use Rattle.rb_runs.proofs.NamedRules.{can_begin}
use Rattle.rb_tables.specs.Changes.{Decided, Fires, IsEffect, IsRunEffect, IsSettled, answer_of, moved_of, need_of}
use Rattle.rb_tables.specs.Leaves.{HasFewLeaves}
use Rattle.rb_runs.specs.Refusing.{refusal_reason}
use Rattle.rb_tables.specs.Tables.{IsTabled}
use Rattle.rb_tables.specs.declared.change.Change.{Change}
use Rattle.rb_tables.specs.declared.change.TableEffect.TheVariants.{Run}
use Rattle.rb_tables.specs.declared.tables.Tables.{Tables}
use Rattle.rb_tables.proofs.Entries.{entries_many}
use Rattle.rb_tables.proofs.Projects.{latest_is}

-- ---- what the tables say

-- the number for draws is below 2^63
drawn_by : (past : List Row) (row : Row) (b : Bool) → is_opened row ≡ b
    → ComesBy (is_opened row || nat_eq (log_state past).rows 0) (log_state past) row
    → draw_of past < 2 ^ 63 → (if b then row.c else draw_of past) < 2 ^ 63
drawn_by past row true is comes low =
    let opening : IsOpening (log_state past) row =
    subst (λ b. ComesBy (b || nat_eq (log_state past).rows 0) (log_state past) row) is comes in
    opening.draw
drawn_by past row false is comes low = low

pub draw_is_low : (past : List Row) → IsLegalLog past → draw_of past < 2 ^ 63
draw_is_low [] legal = omega arith
draw_is_low (row ∷ past) legal =
    drawn_by past row (is_opened row) refl legal.1.1 (draw_is_low past legal.0)

module _ (t : Tables) (past : List Row) (tabled : IsTabled t past) where
  pub there_are : length t.executions.items ≡ length (executions past)
  there_are = entries_many t.executions.items (executions past) tabled.says.executions

  inventory_is : (project : List ℕ)
      → count_of (latest_of project t.nodes.items) ≡ nodes_number (log_state past) project
  inventory_is project =
      ap (λ ls. count_of (latest_of project ls)) tabled.says.nodes
      ∙ ap count_of (latest_is project (projects_at past))

  pub draw_is : t.draw + (length t.executions.items + 1)
      ≡ (log_state past).draw + next_number (log_state past)
  draw_is =
      ap (λ d. d + (length t.executions.items + 1)) tabled.says.draw
      ∙ ap (λ n. draw_of past + (n + 1)) there_are

  pub moment_is : (at : ℤ) → moment_by t.last at ≡ moment (log_state past) at
  moment_is at = ap (λ l. moment_by l at) tabled.says.last

  pub verdict_is : (caller : Caller) (ask : RunAsk) (draw : ℕ)
      → draw ≡ t.draw + (length t.executions.items + 1)
      → verdict_at (log_state past) caller ask ≡ verdict_of t.world caller ask draw
  verdict_is caller ask draw drawn =
      ap (λ w. verdict_of w caller ask ((log_state past).draw + next_number (log_state past)))
      (sym tabled.says.world)
      ∙ ap (verdict_of t.world caller ask) (sym (drawn ∙ draw_is))

-- ---- a run that is accepted

pub some_reading : Reading
some_reading = record { policies = Ok []; jobs = Ok [] }

-- The verdict on what the log says accepts an ask that a row holds as it was asked, of a caller
-- whom a row can hold.
pub record IsAccepted (past : List Row) (caller : Caller) (ask : RunAsk) (due : Option ℕ)
    (accepted : Acceptance) : Type 0 where
  pub legal : IsLegalLog past
  pub clean : IsTrue (is_clean_caller caller)
  pub kept : ask_of ask.job (ask_text ask due) ≡ Some (ask, due)
  pub verdict : verdict_at (log_state past) caller ask ≡ Ok accepted

-- the row fires the job for which a schedule asked, or none
fires_as : (at : ℤ) (number policy inventory : ℕ) (caller : Caller) (ask : RunAsk)
    (due : Option ℕ) (text : List ℕ) → ask_of ask.job text ≡ Some (ask, due)
    → Fires (accept_row at number policy inventory ask.job caller text) (fired_id ask due)
fires_as at number policy inventory caller ask None text kept = ap is_due_ask kept
fires_as at number policy inventory caller ask (Some n) text kept = (ap is_due_ask kept, refl)

-- the row begins the execution
begun : RunLaws → (past : List Row) (caller : Caller) (ask : RunAsk) (due : Option ℕ) (at : ℤ)
    (inventory : ℕ) (accepted : Acceptance) → IsAccepted past caller ask due accepted
    → executions (accept_row at (next_number (log_state past)) (log_state past).policy_number
    inventory ask.job caller (ask_text ask due) ∷ past)
    ≡ executions past
    ++ started (world_of (log_state past)) (next_number (log_state past)) at caller accepted ∷ []
begun laws past caller ask due at inventory accepted is =
    let s : LogState = log_state past in
    let row : Row =
    accept_row at (next_number s) s.policy_number inventory ask.job caller (ask_text ask due) in
    ap (λ o. executions past ++ asked (world_of s) (next_number s) s.draw row o) is.kept
    ∙ ap (λ c. executions past ++ started_if (world_of s) (next_number s) at c
    (verdict_of (world_of s) c ask (s.draw + next_number s)))
    (laws.callers row caller is.clean refl)
    ∙ ap (λ r. executions past ++ started_if (world_of s) (next_number s) at caller r) is.verdict

module _ (past : List Row) (caller : Caller) (ask : RunAsk) (due : Option ℕ) (now : ℤ)
    (accepted : Acceptance) (c : Change)
    (b : BeginsExecution (world_of (log_state past)) (length (executions past))
    (nodes_number (log_state past) accepted.project) now caller ask due accepted c) where
  -- the rules give it
  pub begins_moved : let e : LoggedExecution =
      next_execution (log_state past) now caller accepted in
      run_accepted (log_state past) ask due (answer_of (begun_outcome e due)) e ≡ moved_of c
  begins_moved =
      let s : LogState = log_state past in
      let e : LoggedExecution = next_execution s now caller accepted in
      moved_is c (answer_of (begun_outcome e due))
      (accept_row now (next_number s) s.policy_number (nodes_number s accepted.project) ask.job
      caller (ask_text ask due))
      (Some (2 + 2 * leaf_count e))
      (ap answer_of b.outcome ∙ ap (λ x. answer_of (begun_outcome x due)) b.is) b.row
      (ap need_of b.runs ∙ ap Some (b.need ∙ ap (λ x. 2 + 2 * leaf_count x) b.is))

  -- and the row comes with its effect
  pub begins_effect : RunLaws → IsAccepted past caller ask due accepted
      → IsEffect past c.row c.effect
  begins_effect laws is =
      let s : LogState = log_state past in
      let can = can_begin laws (world_of s) caller ask (s.draw + next_number s) accepted
      (laws.sound past is.legal) is.verdict in
      let inventory = nodes_number s accepted.project in
      let row : Row =
      accept_row now (next_number s) s.policy_number inventory ask.job caller (ask_text ask due) in
      let effect : IsRunEffect past row b.effect = record {
        kind = refl;
        fires = subst (Fires row) (sym b.fired)
            (fires_as now (next_number s) s.policy_number inventory caller ask due
            (ask_text ask due) is.kept);
        execution = b.execution;
        entry = b.entry;
        few = subst HasFewLeaves (sym b.is) (record {
          few = can.may.few;
          most = can.most;
          commands = can.may.commands;
        });
        begun = begun laws past caller ask due now inventory accepted is
            ∙ ap (λ x. executions past ++ x ∷ []) (sym b.is);
        new = b.new;
        empty = b.empty;
        memory = b.memory;
      } in
      subst (IsEffect past c.row) (sym b.runs)
      (subst (λ r. IsRunEffect past r b.effect) (sym b.row) effect)

-- what the tables begin is what the log would
pub begins_there : (t : Tables) (past : List Row) (caller : Caller) (ask : RunAsk)
    (due : Option ℕ) (now : ℤ) (accepted : Acceptance) (c : Change) → IsTabled t past
    → BeginsExecution t.world (length t.executions.items)
    (count_of (latest_of accepted.project t.nodes.items)) now caller ask due accepted c
    → BeginsExecution (world_of (log_state past)) (length (executions past))
    (nodes_number (log_state past) accepted.project) now caller ask due accepted c
begins_there t past caller ask due now accepted c tabled b =
    let s : LogState = log_state past in
    let there : ℕ = length t.executions.items in
    let inventory : ℕ = count_of (latest_of accepted.project t.nodes.items) in
    let begins : World → ℕ → ℕ → Type 0 =
    λ w n i. BeginsExecution w n i now caller ask due accepted c in
    subst (λ i. begins (world_of s) (length (executions past)) i)
    (inventory_is t past tabled accepted.project)
    (subst (λ n. begins (world_of s) n inventory) (there_are t past tabled)
    (subst (λ w. begins w there inventory) tabled.says.world b))

-- a run that the tables begin is one that the rules accept
pub accepted_is_decided : RunLaws → (t : Tables) (past : List Row)
    (caller : Caller) (ask : RunAsk) (at now : ℤ) (draw : ℕ) (accepted : Acceptance) (c : Change)
    → IsTabled t past → IsTrue (is_clean_caller caller) → now ≡ moment_by t.last at
    → draw ≡ t.draw + (length t.executions.items + 1)
    → verdict_of t.world caller ask draw ≡ Ok accepted
    → BeginsExecution t.world (length t.executions.items)
    (count_of (latest_of accepted.project t.nodes.items)) now caller ask None accepted c
    → Decided past (calls.Run caller ask at) (Ok c)
accepted_is_decided laws t past caller ask at now draw accepted c tabled clean here drawn
    verdict b =
    let s : LogState = log_state past in
    let is : IsAccepted past caller ask None accepted = record {
      legal = tabled.legal;
      clean = clean;
      kept = laws.asks ask;
      verdict = verdict_is t past tabled caller ask draw drawn ∙ verdict;
    } in
    let begins = begins_there t past caller ask None now accepted c tabled b in (
      record {
        reading = some_reading;
        may_read = tt;
        says = ap (λ m. run_by s m caller ask (verdict_at s caller ask))
            (sym (here ∙ moment_is t past tabled at))
            ∙ ap (run_by s now caller ask) is.verdict
            ∙ begins_moved past caller ask None now accepted c begins;
      },
      begins_effect past caller ask None now accepted c begins laws is,
    )

-- ---- a run that is refused

reason_is : (s : LogState) (caller : Caller) (ask : RunAsk) (refusal : Refusal)
    → rule.refusal_reason s caller ask refusal
    ≡ refusal_reason (world_of s) caller ask.job refusal
reason_is s caller ask refusals.NoJob = refl
reason_is s caller ask (refusals.JobDenied decision) = refl
reason_is s caller ask (refusals.BadReference path cause) = refl
reason_is s caller ask (refusals.ReferenceDenied path decision) = refl
reason_is s caller ask refusals.Disabled = refl
reason_is s caller ask (refusals.AlreadyRunning execution) = refl
reason_is s caller ask (refusals.BadOption path fault) = refl
reason_is s caller ask refusals.NoNodeSelected = refl
reason_is s caller ask (refusals.NoNodeAllowed name decision) = refl
reason_is s caller ask (refusals.TooLarge leaves) = refl

-- a refusal of the tables' verdict is what the rules answer
pub refused_is_settled : (t : Tables) (past : List Row) (caller : Caller) (ask : RunAsk) (at : ℤ)
    (draw : ℕ) (refusal : Refusal) → IsTabled t past
    → draw ≡ t.draw + (length t.executions.items + 1)
    → verdict_of t.world caller ask draw ≡ Err refusal
    → IsSettled past (calls.Run caller ask at)
    (answer.Refused refusal (refusal_reason t.world caller ask.job refusal))
refused_is_settled t past caller ask at draw refusal tabled drawn verdict = record {
  reading = some_reading;
  may_read = tt;
  says =
      ap (run_by (log_state past) (moment (log_state past) at) caller ask)
      (verdict_is t past tabled caller ask draw drawn ∙ verdict)
      ∙ ap (λ r. only (answer.Refused refusal r))
      (reason_is (log_state past) caller ask refusal
      ∙ ap (λ w. refusal_reason w caller ask.job refusal) (sym tabled.says.world));
}
