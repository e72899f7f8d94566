-- What an abort looks at.
use Rattle.std.specs.Prelude.{◌≡◌, ℕ, List, slice_get, Some, Result, Ok, Err}
use Rattle.rb_causes.specs.declared.row.Row.{Row}
use Rattle.rb_log.specs.Executions.{Execution, executions}
use Rattle.rb_log.specs.LogState.{log_state}
use Rattle.rb_log.specs.Runs.{known}
use Rattle.rb_log.specs.declared.answer.Answer.{Answer}
use Rattle.rb_tables.specs.Changes.{IsRefusal}

-- The execution of this number stands at the place.
pub record IsKnownAt (past : List Row) (number place : ℕ) : Type 0 where
  pub execution : Execution
  pub known_as : known (log_state past) number ≡ Ok execution
  pub named : execution.number ≡ number
  pub found : slice_get (executions past) place ≡ Some execution

-- it is found so, or the rules refuse
abbrev pub Finds : List Row → ℕ → Result ℕ Answer → Type 0
Finds past number (Ok place) = IsKnownAt past number place
Finds past number (Err a) = IsRefusal (known (log_state past) number) a
