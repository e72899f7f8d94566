-- What the tables are behind a row that changes one execution.
use Rattle.std.proofs.Common.{◌≡◌, ◌∙◌, ◌+◌, ◌-◌, ◌^◌, min, ℕ, List, ◌∷◌, map, filter, Bool, true, false, not, nat_eq, Some, slice_get, slice_set, ap, sym, subst, refl, arith, if◌then◌else◌}
use Rattle.rb_causes.specs.declared.row.Row.{Row}
use Rattle.rb_marks.specs.declared.mark.Mark.{Mark}
use Rattle.rb_plan.specs.declared.world.World.{World}
use Rattle.rb_log.specs.Executions.{Execution as LoggedExecution, executions, is_running, marked, running_now}
use Rattle.rb_log.specs.LogState.{counted_at, log_state}
use Rattle.rb_log.specs.Rows.{counted_bytes, is_withdraw}
use Rattle.rb_tables.specs.Running.{owed_if_running, running_after, with_mark}
use Rattle.rb_tables.specs.Tables.{AreEntries, IsEntry, AreLogTables, owed_among}
use Rattle.rb_tables.specs.declared.execution.Execution.{Execution}
use Rattle.rb_tables.specs.declared.tables.Tables.{Tables}
use Rattle.rb_tables.specs.LogLaws.{LogLaws}
use Rattle.rb_tables.proofs.Entries.{entries_set}
use Rattle.rb_tables.proofs.Marked.{Marks, from_law, mark_set, policies_before, running_of, settled_is}
use Rattle.rb_tables.proofs.OwedRows.{owed_part, owed_set}
use Rattle.rb_tables.proofs.Saying.{Keeps}

module _ (laws : LogLaws) (t : Tables) (past : List Row) (says : AreLogTables t (log_state past))
    (row : Row) (k : ℕ) (e y : LoggedExecution) (get : slice_get (executions past) k ≡ Some e)
    (same : running_of y ≡ running_of e)
    (set_is : executions (row ∷ past) ≡ slice_set (executions past) k y) where
  -- where the tables have it at its place
  pub one_put : (items : List Execution) (x : Execution)
      → items ≡ slice_set t.executions.items k x → IsEntry x y
      → AreEntries items (executions (row ∷ past))
  one_put items x is entry =
      subst (λ es. AreEntries es (executions (row ∷ past))) (sym is)
      (subst (AreEntries (slice_set t.executions.items k x)) (sym set_is)
      (entries_set t.executions.items (executions past) says.executions k x y entry))

  pub run_on : is_running e ≡ true → running_now (executions (row ∷ past))
      ≡ running_after y (running_now (executions past))
  run_on runs =
      ap running_now set_is
      ∙ settled_is 0 (executions past) (from_law laws.numbered past) k e y same get runs

  pub run_same : is_running e ≡ true → is_running y ≡ true
      → running_now (executions (row ∷ past)) ≡ running_now (executions past)
  run_same runs still =
      run_on runs ∙ by_test (is_running y) still
    where
      by_test : (b : Bool) → b ≡ true
          → (if b then running_now (executions past)
          else filter (λ r. not (nat_eq r.execution y.number)) (running_now (executions past)))
          ≡ running_now (executions past)
      by_test true h = refl
      by_test false h = absurd (grind (arith, h))

  -- what is owed less what it owed before and with what it owes now
  pub owed_on : (n : ℕ) → n ≡ t.owed_by_running - owed_if_running e + owed_if_running y
      → n ≡ owed_among (executions (row ∷ past))
  owed_on n is =
      let set = ap owed_among set_is in
      omega (
        arith,
        is,
        set,
        says.owed,
        owed_set (executions past) k e y get,
        owed_part (executions past) k e get,
      )

-- where a row marks one execution
pub one_marked : LogLaws → (past : List Row) (row : Row) (mark : LoggedExecution → Mark)
    → is_withdraw row ≡ false → Marks row mark
    → executions (row ∷ past) ≡ map (marked (policies_before past) row) (executions past)
    → (k : ℕ) (e : LoggedExecution) → slice_get (executions past) k ≡ Some e
    → row.a ≡ e.number
    → executions (row ∷ past) ≡ slice_set (executions past) k (with_mark e (mark e))
one_marked laws past row mark plain marks unaccepted k e get named =
    unaccepted
    ∙ mark_set (policies_before past) row mark plain marks 0 (executions past)
    (from_law laws.numbered past) k e get named

-- the running ones of the tables
pub desk_running : (t : Tables) (past : List Row) → AreLogTables t (log_state past)
    → t.world.running ≡ running_now (executions past)
desk_running t past says = ap (λ (w : World). w.running) says.world

-- What becomes of the tables by a row that opens no leaf and may be the last of an execution, which
-- was this one and is then that one.
pub record GoesOn (old new : Tables) (past : List Row) (row : Row) (place : ℕ)
    (e y : LoggedExecution) : Type 0 where
  pub keeps : Keeps old new
  pub counted : new.counted ≡ min (counted_at past + counted_bytes row) (2 ^ 64 - 1)
  pub last : new.last ≡ Some row.at
  pub doors : new.doors.items ≡ old.doors.items
  pub execution : Execution
  pub entry : IsEntry execution y
  pub executions : new.executions.items ≡ slice_set old.executions.items place execution
  pub owed : new.owed_by_running ≡ old.owed_by_running - owed_if_running e + owed_if_running y
  pub running : new.world.running ≡ running_after y old.world.running

-- ---- counted bytes

-- with those of a row that was counted
pub counted_more : (t : Tables) (past : List Row) (bytes counted n : ℕ)
    → AreLogTables t (log_state past) → counted ≡ min bytes (2 ^ 64 - 1)
    → n ≡ min (t.counted + counted) (2 ^ 64 - 1)
    → n ≡ min (counted_at past + bytes) (2 ^ 64 - 1)
counted_more t past bytes counted n says is h = omega (arith, says.counted, is, h)

-- with a row that has none
pub counted_bare : (t : Tables) (past : List Row) (bytes : ℕ)
    → AreLogTables t (log_state past) → bytes ≡ 0
    → t.counted ≡ min (counted_at past + bytes) (2 ^ 64 - 1)
counted_bare t past bytes says bare = omega (arith, says.counted, bare)
