-- What the tables are behind an abort.
use Rattle.std.proofs.Common.{◌≡◌, ◌∙◌, ◌+◌, ◌-◌, ◌^◌, min, ℕ, List, ◌∷◌, ap, sym, subst, refl}
use Rattle.rb_causes.specs.declared.row.Row.{Row}
use Rattle.rb_marks.specs.declared.mark.Mark.{Mark}
use Rattle.rb_marks.specs.declared.mark.Mark.TheVariants.{Abort}
use Rattle.rb_log.specs.Executions.{Execution as LoggedExecution}
use Rattle.rb_log.specs.LogState.{log_state, counted_at}
use Rattle.rb_log.specs.Rows.{counted_bytes}
use Rattle.rb_tables.specs.Changes.{IsAbortEffect}
use Rattle.rb_tables.specs.Running.{running_after, with_mark}
use Rattle.rb_tables.specs.Tables.{AreLogTables}
use Rattle.rb_tables.specs.declared.tables.Tables.{Tables}
use Rattle.rb_tables.specs.LogLaws.{LogLaws}
use Rattle.rb_tables.proofs.Marked.{Marks}
use Rattle.rb_tables.proofs.Saying.{says_on}
use Rattle.rb_changes.proofs.OneMark.{GoesOn, desk_running, one_marked, one_put, owed_on, run_on}

pub aborted_says : LogLaws → (old new : Tables) (past : List Row) (row : Row) (place : ℕ)
    → AreLogTables old (log_state past) → (effect : IsAbortEffect past row place)
    → GoesOn old new past row place effect.execution (with_mark effect.execution Abort)
    → new.leaves.items ≡ old.leaves.items → AreLogTables new (log_state (row ∷ past))
aborted_says laws old new past row place says effect change leaves =
    let r : Row = record row { kind = 7 } in
    let e : LoggedExecution = effect.execution in
    let mark : LoggedExecution → Mark = λ x. Abort in
    let marks : Marks r mark = λ x. refl in
    let set = one_marked laws past r mark refl marks refl place e effect.at.found
    (sym effect.at.named) in
    subst (λ n. AreLogTables new (log_state (record row { kind = n } ∷ past))) (sym effect.kind)
    (says_on old new past r (record {
      opened = refl;
      zone = refl;
      nodes = refl;
      jobs = refl;
      policy = refl;
      fire = refl;
    }) says change.keeps (record {
      counted = change.counted
          ∙ ap (λ n. min (counted_at past + counted_bytes (record row { kind = n })) (2 ^ 64 - 1))
          effect.kind;
      last = change.last;
      doors = change.doors ∙ says.doors;
      leaves = leaves ∙ says.leaves;
      owed = owed_on laws old past says r place e (with_mark e Abort) effect.at.found refl set
          new.owed_by_running change.owed;
      marks = one_put laws old past says r place e (with_mark e Abort) effect.at.found refl set
          new.executions.items change.execution change.executions change.entry;
      running = change.running
          ∙ ap (running_after (with_mark e Abort)) (desk_running old past says)
          ∙ sym (run_on laws old past says r place e (with_mark e Abort) effect.at.found refl set
          effect.runs);
    }))
