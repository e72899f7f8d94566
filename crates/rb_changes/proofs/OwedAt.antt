-- What an execution of the tables owes, before a row and behind it.
use Rattle.std.proofs.Common.{◌≡◌, ◌∙◌, ◌*◌, ℕ, List, length, Some, slice_get, get_or, ap, sym, arith}
use Rattle.std.proofs.lemmas.Option.{slice_get-get_or, slice_get_within}
use Rattle.rb_causes.specs.declared.row.Row.{Row}
use Rattle.rb_causes.proofs.Lists.{some_is}
use Rattle.rb_log.specs.Executions.{Execution as LoggedExecution, executions}
use Rattle.rb_tables.specs.Leaves.{HasFewLeaves}
use Rattle.rb_tables.specs.LogLaws.{LogLaws}
use Rattle.rb_tables.specs.Running.{MayOwe, owed_if_running}
use Rattle.rb_tables.specs.Tables.{IsTabled}
use Rattle.rb_tables.specs.declared.execution.Execution.{Execution}
use Rattle.rb_tables.specs.declared.tables.Tables.{Tables}
use Rattle.rb_tables.proofs.OwedRows.{owed_part, owed_small}

-- so much may be taken from what is owed
pub may_owe : LogLaws → (t : Tables) (past : List Row) → IsTabled t past → (k : ℕ)
    (e : LoggedExecution) → slice_get (executions past) k ≡ Some e → (n : ℕ)
    → n ≡ owed_if_running e → MayOwe t n
may_owe laws t past tabled k e get n is = (
  omega (arith, is, tabled.says.owed, owed_part (executions past) k e get),
  omega (arith, tabled.says.owed, owed_small laws past tabled.legal tabled.few),
)

-- what was accepted of it stays, and so it has few leaves
pub still_few : (e y : LoggedExecution) → y.accepted ≡ e.accepted → HasFewLeaves e
    → HasFewLeaves y
still_few e y same few = record {
  few = omega (arith, few.few, ap (λ a. length a.nodes * a.plan.slots) same);
  most = omega (arith, few.most, ap (λ a. length a.commands) same);
  commands = ap (λ a. length a.commands) same ∙ few.commands ∙ ap (λ a. a.plan.slots) (sym same);
}

-- what was read at a place stands there
pub found_read : (xs : List Execution) (k : ℕ) (e x : Execution) → slice_get xs k ≡ Some e
    → x ≡ get_or xs k x → e ≡ x
found_read xs k e x get is =
    some_is e x (sym get ∙ slice_get-get_or xs k x (slice_get_within xs k e get)
    ∙ ap Some (sym is))
