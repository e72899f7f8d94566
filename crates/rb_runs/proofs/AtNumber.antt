-- The execution of a number, and rules that hold or refuse.
use Rattle.std.proofs.Common.{◌≡◌, ◌∙◌, ◌≤◌, ◌<◌, ◌+◌, ℕ, suc, List, length, Bool, true, false, Ok, Err, ap, sym, refl, arith}
use Rattle.rb_causes.specs.declared.row.Row.{Row}
use Rattle.rb_log.specs.Executions.{executions, execution_among}
use Rattle.rb_log.specs.LogState.{log_state}
use Rattle.rb_log.specs.Moves.{must}
use Rattle.rb_log.specs.Runs.{known, known_by}
use Rattle.rb_log.specs.declared.answer.Answer.{Answer}
use Rattle.rb_log.specs.declared.answer.Answer.TheVariants as answer
use Rattle.rb_tables.specs.LogLaws.{LogLaws}
use Rattle.rb_tables.specs.Tables.{AreLogTables}
use Rattle.rb_tables.specs.declared.tables.Tables.{Tables}
use Rattle.rb_tables.proofs.Entries.{entries_many}
use Rattle.rb_tables.proofs.Marked.{found_at, from_law, none_high, none_low}
use Rattle.rb_tables.proofs.DeskAt.{get_there}
use Rattle.rb_runs.specs.Aborting.{IsKnownAt}

desk_many : (t : Tables) (past : List Row) → AreLogTables t (log_state past)
    → length t.executions.items ≡ length (executions past)
desk_many t past says = entries_many t.executions.items (executions past) says.executions

pub none_at_zero : LogLaws → (past : List Row)
    → known (log_state past) 0 ≡ Err answer.NoExecution
none_at_zero laws past =
    ap known_by (none_low 0 0 (executions past) (from_law laws.numbered past) (omega arith))

pub none_behind : LogLaws → (t : Tables) (past : List Row) → AreLogTables t (log_state past)
    → (number : ℕ) → length t.executions.items < number
    → known (log_state past) number ≡ Err answer.NoExecution
none_behind laws t past says number high =
    let many = desk_many t past says in
    ap known_by (none_high number 0 (executions past) (from_law laws.numbered past)
    (omega (arith, high, many)))

pub known_at : LogLaws → (t : Tables) (past : List Row) → AreLogTables t (log_state past)
    → (number place : ℕ) → place + 1 ≡ number → number ≤ length t.executions.items
    → IsKnownAt past number place
known_at laws t past says number place is low =
    let many = desk_many t past says in
    let x = get_there (executions past) place (omega (arith, is, low, many)) in
    let numbered = laws.numbered past place x.0 x.1 in
    record {
      execution = x.0;
      known_as = ap (λ n. known_by (execution_among n (executions past)))
          (same_number numbered is)
          ∙ ap known_by (found_at laws.numbered past place x.0 x.1);
      named = sym (same_number numbered is);
      found = x.1;
    }
  where
    same_number : {n place number : ℕ} → n ≡ suc place → place + 1 ≡ number → number ≡ n
    same_number h k = omega (arith, h, k)

pub must_holds : (b : Bool) (a : Answer) → b ≡ true → must b a ≡ Ok true
must_holds true a h = refl
must_holds false a h = absurd (grind (arith, h))

pub must_fails : (b : Bool) (a : Answer) → b ≡ false → must b a ≡ Err a
must_fails true a h = absurd (grind (arith, h))
must_fails false a h = refl
