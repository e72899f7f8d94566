-- What the tables are behind a Begin.
use Rattle.std.proofs.Common.{◌≡◌, ◌∙◌, ◌+◌, ◌-◌, ◌^◌, min, ℕ, List, [], ◌∷◌, ◌++◌, true, false, Some, slice_get, slice_set, ap, sym, subst, refl, arith}
use Rattle.rb_causes.specs.declared.row.Row.{Row}
use Rattle.rb_marks.specs.Units.{is_settled}
use Rattle.rb_marks.specs.First.{first_startable, is_begin_of, is_lost}
use Rattle.rb_marks.specs.declared.mark.Leaf.{Leaf}
use Rattle.rb_marks.specs.declared.mark.Mark.{Mark}
use Rattle.rb_marks.specs.declared.mark.Mark.TheVariants.{Begin}
use Rattle.rb_marks.proofs.Counts.{any_more, any_here}
use Rattle.rb_marks.proofs.Growing.{begin_leaves, same_leaf_refl}
use Rattle.rb_marks.proofs.Waits.{first_goes_on, first_waits}
use Rattle.rb_log.specs.Executions.{Execution as LoggedExecution, executions, execution_among, is_running, leaf_of}
use Rattle.rb_log.specs.LogState.{log_state, counted_at}
use Rattle.rb_log.specs.Rows.{counted_bytes}
use Rattle.rb_log.specs.Sums.{open_leaves, with_begun}
use Rattle.rb_log.proofs.RoomLaws.{open_runs}
use Rattle.rb_tables.specs.Changes.{IsBeginEffect}
use Rattle.rb_tables.specs.Running.{owed_if_running, with_mark}
use Rattle.rb_tables.specs.Tables.{IsEntry, IsOf, AreLogTables}
use Rattle.rb_tables.specs.declared.execution.Execution.{Execution}
use Rattle.rb_tables.specs.declared.tables.Tables.{Tables}
use Rattle.rb_tables.specs.LogLaws.{LogLaws}
use Rattle.rb_tables.proofs.Marked.{Marks, found_at}
use Rattle.rb_tables.proofs.OpenListed.{is_open_by}
use Rattle.rb_tables.proofs.OpenStatus.{not_lost}
use Rattle.rb_tables.proofs.Saying.{Keeps, says_on}
use Rattle.rb_tables.proofs.Ended.{starts_run}
use Rattle.rb_changes.proofs.OneMark.{desk_running, one_marked, one_put, owed_on, run_same}

-- and also once that has begun
pub begun_runs : (e : LoggedExecution) (leaf : Leaf)
    → first_startable e.accepted.plan e.marks ≡ Some leaf
    → is_running (with_mark e (Begin leaf)) ≡ true
begun_runs e leaf first =
    open_runs e.accepted.plan (e.marks ++ Begin leaf ∷ []) leaf
    (is_open_by (e.marks ++ Begin leaf ∷ []) leaf
    (any_here (is_begin_of leaf) e.marks (Begin leaf) (same_leaf_refl leaf))
    (ap is_settled (begin_leaves e.marks leaf leaf
    ∙ first_waits e.accepted.plan e.marks leaf first)))
    (any_more is_lost e.marks (Begin leaf) refl
    ∙ not_lost e.marks (first_goes_on e.accepted.plan e.marks leaf first))

-- one that runs is not over
pub running_entry : (x : Execution) (l : LoggedExecution) → IsOf x l → is_running l ≡ true
    → IsEntry x l
running_entry x l is runs = record {
  is = is;
  over = λ ended. absurd (let wrong : true ≡ false = sym runs ∙ ended in grind (arith, wrong));
}

-- What becomes of the tables by a Begin of this execution.
pub record Begins (old new : Tables) (past : List Row) (row : Row) (place : ℕ) (leaf : Leaf)
    (e : LoggedExecution) : Type 0 where
  pub keeps : Keeps old new
  pub counted : new.counted ≡ min (counted_at past + counted_bytes row) (2 ^ 64 - 1)
  pub last : new.last ≡ Some row.at
  pub doors : new.doors.items ≡ old.doors.items
  pub leaves : new.leaves.items ≡ old.leaves.items
      ++ record { execution = row.a; leaf = leaf; worker = row.c } ∷ []
  pub execution : Execution
  pub executions : new.executions.items ≡ slice_set old.executions.items place execution
  pub owed : new.owed_by_running
      ≡ old.owed_by_running - owed_if_running e + owed_if_running (with_mark e (Begin leaf))
  pub running : new.world.running ≡ old.world.running

begun_leaves : LogLaws → (past : List Row) (row : Row) (k : ℕ) (e : LoggedExecution)
    → slice_get (executions past) k ≡ Some e → row.a ≡ e.number → (leaf : Leaf)
    → leaf_of e row.b ≡ leaf
    → open_leaves past ++ record { execution = row.a; leaf = leaf; worker = row.c } ∷ []
    ≡ with_begun row (execution_among row.a (executions past)) (open_leaves past)
begun_leaves laws past row k e get named leaf is =
    ap (λ l. open_leaves past ++ record { execution = row.a; leaf = l; worker = row.c } ∷ [])
    (sym is)
    ∙ ap (λ o. with_begun row o (open_leaves past))
    (sym (ap (λ n. execution_among n (executions past)) named
    ∙ found_at laws.numbered past k e get))

pub begun_says : LogLaws → (old new : Tables) (past : List Row) (row : Row) (place : ℕ)
    (leaf : Leaf) (worker : ℕ) → AreLogTables old (log_state past)
    → (effect : IsBeginEffect past row place leaf worker)
    → (begins : Begins old new past row place leaf effect.execution)
    → IsOf begins.execution (with_mark effect.execution (Begin leaf))
    → AreLogTables new (log_state (row ∷ past))
begun_says laws old new past row place leaf worker says effect begins is =
    let r : Row = record row { kind = 8 } in
    let e : LoggedExecution = effect.execution in
    let mark : LoggedExecution → Mark = λ x. Begin (leaf_of x row.b) in
    let marks : Marks r mark = λ x. refl in
    let begun : with_mark e (Begin leaf) ≡ with_mark e (mark e) =
    ap (λ l. with_mark e (Begin l)) (sym effect.begun) in
    let still : is_running (with_mark e (mark e)) ≡ true =
    ap is_running (sym begun) ∙ begun_runs e leaf effect.first in
    let set = one_marked laws past r mark refl marks refl place e effect.at.found
    (sym effect.at.named) in
    subst (λ n. AreLogTables new (log_state (record row { kind = n } ∷ past))) (sym effect.kind)
    (says_on old new past r (record {
      opened = refl;
      zone = refl;
      nodes = refl;
      jobs = refl;
      policy = refl;
      fire = refl;
    }) says begins.keeps (record {
      counted = begins.counted
          ∙ ap (λ n. min (counted_at past + counted_bytes (record row { kind = n })) (2 ^ 64 - 1))
          effect.kind;
      last = begins.last;
      doors = begins.doors ∙ says.doors;
      leaves = begins.leaves
          ∙ ap (λ ls. ls ++ record { execution = row.a; leaf = leaf; worker = row.c } ∷ [])
          says.leaves
          ∙ begun_leaves laws past r place e effect.at.found (sym effect.at.named) leaf
          effect.begun;
      owed = owed_on laws old past says r place e (with_mark e (mark e)) effect.at.found refl set
          new.owed_by_running
          (begins.owed
          ∙ ap (λ x. old.owed_by_running - owed_if_running e + owed_if_running x) begun);
      marks = one_put laws old past says r place e (with_mark e (mark e)) effect.at.found refl set
          new.executions.items begins.execution begins.executions
          (running_entry begins.execution (with_mark e (mark e))
          (subst (IsOf begins.execution) begun is) still);
      running = begins.running
          ∙ desk_running old past says
          ∙ sym (run_same laws old past says r place e (with_mark e (mark e)) effect.at.found refl
          set (starts_run e leaf effect.first) still);
    }))
