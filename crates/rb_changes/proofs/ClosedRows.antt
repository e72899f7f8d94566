-- What the tables are behind the end of a door.
use Rattle.std.proofs.Common.{◌≡◌, ◌∙◌, ℕ, ℤ, List, [], ◌∷◌, ◌++◌, map, Bool, true, false, nat_eq, Some, append-nil, ap, sym, subst, refl, if◌then◌else◌}
use Rattle.rb_causes.specs.declared.row.Row.{Row}
use Rattle.rb_marks.specs.declared.mark.Mark.{Mark}
use Rattle.rb_acl.specs.declared.policy.Policies.{Policies}
use Rattle.rb_log.specs.Rows.{close_row, counted_bytes, is_withdraw}
use Rattle.rb_log.specs.Executions.{Execution as LoggedExecution, executions, marked, marks_of, running_now}
use Rattle.rb_log.specs.LogState.{log_state}
use Rattle.rb_log.specs.Sums.{without}
use Rattle.rb_tables.specs.Tables.{AreEntries, AreLogTables, owed_among}
use Rattle.rb_tables.specs.declared.tables.Tables.{Tables}
use Rattle.rb_tables.proofs.Saying.{Keeps, says_on}
use Rattle.rb_changes.proofs.OneMark.{counted_bare, desk_running}
use Rattle.rb_tables.proofs.Marked.{marked_alone, policies_before}

pub unmarked : (policies : Policies) (row : Row) (es : List LoggedExecution)
    → is_withdraw row ≡ false → ((e : LoggedExecution) → marks_of row e ≡ [])
    → map (marked policies row) es ≡ es
unmarked policies row [] plain h = refl
unmarked policies row (e ∷ es) plain h =
    ap (λ x. x ∷ map (marked policies row) es)
    (marked_alone policies row e plain
    ∙ ap (λ ms. record e { marks = e.marks ++ ms }) (h e)
    ∙ ap (λ ms. record e { marks = ms }) (append-nil e.marks))
    ∙ ap (λ xs. e ∷ xs) (unmarked policies row es plain h)

abbrev no_marks : List Mark
no_marks = []

pub no_mark : (b : Bool) → (if b then [] else []) ≡ no_marks
no_mark true = refl
no_mark false = refl

-- What becomes of the tables by the end of a door.
pub record Closes (old new : Tables) (at : ℤ) (door : ℕ) : Type 0 where
  pub keeps : Keeps old new
  pub counted : new.counted ≡ old.counted
  pub last : new.last ≡ Some at
  pub doors : new.doors.items ≡ without door old.doors.items
  pub leaves : new.leaves.items ≡ old.leaves.items
  pub owed : new.owed_by_running ≡ old.owed_by_running
  pub executions : new.executions.items ≡ old.executions.items
  pub running : new.world.running ≡ old.world.running

pub closed_says : (old new : Tables) (past : List Row) (at : ℤ) (door : ℕ)
    → AreLogTables old (log_state past) → Closes old new at door
    → AreLogTables new (log_state (close_row at door ∷ past))
closed_says old new past at door says closes =
    let row : Row = close_row at door in
    let same : executions past ≡ executions (row ∷ past) =
    sym (unmarked (policies_before past) row (executions past) refl
    (λ e. no_mark (nat_eq door e.number))) in
    says_on old new past row (record {
      opened = refl;
      zone = refl;
      nodes = refl;
      jobs = refl;
      policy = refl;
      fire = refl;
    }) says closes.keeps (record {
      counted = closes.counted ∙ counted_bare old past (counted_bytes row) says refl;
      last = closes.last;
      doors = closes.doors ∙ ap (without door) says.doors;
      leaves = closes.leaves ∙ says.leaves;
      owed = closes.owed ∙ says.owed ∙ ap owed_among same;
      marks = subst (λ es. AreEntries es (executions (row ∷ past))) (sym closes.executions)
          (subst (AreEntries old.executions.items) same says.executions);
      running = closes.running ∙ desk_running old past says ∙ ap running_now same;
    })
