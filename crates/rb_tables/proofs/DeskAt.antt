-- The executions of a desk, by their places and numbers.
use Rattle.std.proofs.Common.{◌≡◌, ◌∙◌, ◌<◌, ℕ, zero, suc, List, [], ◌∷◌, length, Some, slice_get, ap, refl, arith}
use Rattle.rb_causes.specs.declared.row.Row.{Row}
use Rattle.rb_log.specs.Executions.{Execution as LoggedExecution, executions, is_running}
use Rattle.rb_log.specs.LogState.{log_state}
use Rattle.rb_tables.specs.LogLaws.{LogLaws}
use Rattle.rb_tables.specs.Running.{runs}
use Rattle.rb_tables.specs.Tables.{IsEntry, IsTabled, AreLogTables}
use Rattle.rb_tables.specs.declared.execution.Execution.{Execution}
use Rattle.rb_tables.specs.declared.tables.Tables.{Tables}
use Rattle.rb_tables.proofs.OpenStatus.{runs_told}
use Rattle.rb_tables.proofs.Saying.{desk_is, desk_low}

pub get_there : {A : Type 0} (xs : List A) (k : ℕ) → k < length xs
    → (x : A) × (slice_get xs k ≡ Some x)
get_there [] k low = absurd (omega (arith, low))
get_there (x ∷ xs) zero low = (x, refl)
get_there (x ∷ xs) (suc k) low = get_there xs k (omega (arith, low))

-- The one at a place, as the log tells it.
pub record IsAtPlace (t : Tables) (k : ℕ) (e : LoggedExecution) : Type 0 where
  pub execution : Execution
  pub found : slice_get t.executions.items k ≡ Some execution
  pub entry : IsEntry execution e

pub desk_there : (t : Tables) (past : List Row) → AreLogTables t (log_state past) → (k : ℕ)
    (e : LoggedExecution) → slice_get (executions past) k ≡ Some e → IsAtPlace t k e
desk_there t past says k e get =
    let x = get_there t.executions.items k (desk_low t past says k e get) in
    record { execution = x.0; found = x.1; entry = desk_is t past says k e get x.0 x.1 }

-- whether it runs is told
pub desk_told : LogLaws → (t : Tables) (past : List Row) → IsTabled t past → (k : ℕ)
    (e : LoggedExecution) → slice_get (executions past) k ≡ Some e
    → runs e t.leaves.items ≡ is_running e
desk_told laws t past tabled k e get =
    ap (runs e) tabled.says.leaves
    ∙ runs_told laws past k e tabled.legal get
