-- What the tables are behind a withdrawal.
use Rattle.std.proofs.Common.{◌≡◌, ◌∙◌, ◌+◌, ◌-◌, ◌^◌, min, ℕ, List, [], ◌∷◌, ◌++◌, true, false, IsTrue, map, slice_set, ap, sym, subst, refl}
use Rattle.std.specs.List.{list_any}
use Rattle.rb_causes.specs.declared.row.Row.{Row}
use Rattle.rb_marks.specs.First.{may_withdraw, stops}
use Rattle.rb_marks.specs.declared.mark.Mark.TheVariants.{Withdraw}
use Rattle.rb_marks.proofs.Waits.{first_goes_on}
use Rattle.rb_log.specs.Executions.{Execution as LoggedExecution, executions, is_running, marked}
use Rattle.rb_log.specs.LogState.{log_state, counted_at}
use Rattle.rb_log.specs.Rows.{counted_bytes, withdraw_kind}
use Rattle.rb_tables.specs.Changes.{IsWithdrawEffect}
use Rattle.rb_tables.specs.Running.{running_after, with_withdrawal}
use Rattle.rb_tables.specs.Tables.{AreLogTables, withdrawn_of}
use Rattle.rb_tables.specs.declared.change.WithdrawEffect.{WithdrawEffect}
use Rattle.rb_tables.specs.declared.tables.Tables.{Tables}
use Rattle.rb_tables.specs.LogLaws.{LogLaws}
use Rattle.rb_tables.proofs.Ended.{starts_run}
use Rattle.rb_tables.proofs.Going.{withdraws_first}
use Rattle.rb_tables.proofs.Marked.{from_law, policies_before, withdraw_set, withdrawn_at}
use Rattle.rb_tables.proofs.Saying.{says_on}
use Rattle.rb_changes.proofs.OneMark.{GoesOn, desk_running, one_put, owed_on, run_on}

-- what may be withdrawn from runs
pub withdraws_runs : (e : LoggedExecution) (node : ℕ)
    → IsTrue (may_withdraw e.accepted.plan e.marks node) → is_running e ≡ true
withdraws_runs e node h = let s = withdraws_first e node h in starts_run e s.0 s.1

-- and was not stopped
pub goes_on : (e : LoggedExecution) (node : ℕ)
    → IsTrue (may_withdraw e.accepted.plan e.marks node) → list_any stops e.marks ≡ false
goes_on e node h =
    let s = withdraws_first e node h in first_goes_on e.accepted.plan e.marks s.0 s.1

-- what the row does to the execution that it names
pub withdrawal_is : (past : List Row) (row : Row) (w : WithdrawEffect)
    → (effect : IsWithdrawEffect past row w)
    → withdrawn_at (policies_before past) row effect.execution
    ≡ with_withdrawal effect.execution (withdrawn_of w.new)
withdrawal_is past row w effect =
    let e : LoggedExecution = effect.execution in
    ap (λ ws. record e {
      withdrawn = e.withdrawn ++ ws;
      marks = e.marks ++ Withdraw row.b ∷ [];
    }) (sym effect.new)
    ∙ ap (λ n. record e {
      withdrawn = e.withdrawn ++ withdrawn_of w.new ∷ [];
      marks = e.marks ++ Withdraw n ∷ [];
    }) (sym effect.named)

pub withdrawal_set : LogLaws → (past : List Row) (row : Row) (w : WithdrawEffect)
    → (effect : IsWithdrawEffect past row w)
    → executions (row ∷ past)
    ≡ slice_set (executions past) w.place
    (with_withdrawal effect.execution (withdrawn_of w.new))
withdrawal_set laws past row w effect =
    subst (λ k. executions (record row { kind = k } ∷ past)
    ≡ map (marked (policies_before past) (record row { kind = k })) (executions past))
    (sym effect.kind) refl
    ∙ withdraw_set (policies_before past) row effect.kind 0 (executions past)
    (from_law laws.numbered past) w.place effect.execution effect.at.found
    (sym effect.at.named)
    ∙ ap (slice_set (executions past) w.place) (withdrawal_is past row w effect)

pub withdrawn_says : LogLaws → (old new : Tables) (past : List Row) (row : Row)
    (w : WithdrawEffect) → AreLogTables old (log_state past)
    → (effect : IsWithdrawEffect past row w)
    → GoesOn old new past row w.place effect.execution
    (with_withdrawal effect.execution (withdrawn_of w.new))
    → new.leaves.items ≡ old.leaves.items → AreLogTables new (log_state (row ∷ past))
withdrawn_says laws old new past row w says effect change leaves =
    let r : Row = record row { kind = withdraw_kind } in
    let e : LoggedExecution = effect.execution in
    let y : LoggedExecution = with_withdrawal e (withdrawn_of w.new) in
    let set = subst (λ k. executions (record row { kind = k } ∷ past)
    ≡ slice_set (executions past) w.place y) effect.kind
    (withdrawal_set laws past row w effect) in
    let runs = withdraws_runs e row.b effect.may in
    subst (λ n. AreLogTables new (log_state (record row { kind = n } ∷ past))) (sym effect.kind)
    (says_on old new past r (record {
      opened = refl;
      zone = refl;
      nodes = refl;
      jobs = refl;
      policy = refl;
      fire = refl;
    }) says change.keeps (record {
      counted = change.counted
          ∙ ap (λ n. min (counted_at past + counted_bytes (record row { kind = n })) (2 ^ 64 - 1))
          effect.kind;
      last = change.last;
      doors = change.doors ∙ says.doors;
      leaves = leaves ∙ says.leaves;
      owed = owed_on laws old past says r w.place e y effect.at.found refl set
          new.owed_by_running change.owed;
      marks = one_put laws old past says r w.place e y effect.at.found refl set
          new.executions.items change.execution change.executions change.entry;
      running = change.running
          ∙ ap (running_after y) (desk_running old past says)
          ∙ sym (run_on laws old past says r w.place e y effect.at.found refl set runs);
    }))
