use Rattle.std.proofs.Common.{◌≡◌, ◌+◌, ◌-◌, ℕ, get_or, ap, subst, arith}
use Rattle.std.proofs.lemmas.Option.{slice_get_within}
use Rattle.rb_log.specs.Executions.{Execution as LoggedExecution}
use Rattle.rb_tables.specs.Running.{IsOwing, owed_if_running}
use Rattle.rb_tables.specs.Tables.{IsEntry}
use Rattle.rb_tables.specs.declared.execution.Execution.{Execution}
use Rattle.rb_tables.specs.declared.tables.Tables.{Tables}
use Rattle.rb_tables.proofs.OwedRows.{part_small}
use Rattle.rb_changes.proofs.OwedAt.{found_read}
use Rattle.rb_changes.proofs.retiring.owe_anew.Goals as goal
use Rattle.rb_changes.proofs.retiring.owe_anew.Goals.{After-owed-owed}

pub index-requires : goal.index-requires
index-requires c =
    let o = c.requires.entry.1 in
    omega (
      arith,
      slice_get_within c.args.tables.now.executions.items c.args.place o.execution o.found,
      c.args.tables.now.executions.ok.0,
    )

entry_at : (t : Tables) (place before : ℕ) (l : LoggedExecution) (x : Execution)
    → IsOwing t place l before → x ≡ get_or t.executions.items place x → IsEntry x l
entry_at t place before l x owing read =
    subst (λ (z : Execution). IsEntry z l)
    (found_read t.executions.items place owing.execution x owing.found read) owing.entry

pub owed-owed-requires : goal.owed-owed-requires
owed-owed-requires c = (
  c.requires.entry.0,
  entry_at c.args.tables.now c.args.place c.args.before c.requires.entry.0 c.index.result.now
      c.requires.entry.1 c.index.ensures,
  c.requires.entry.1.few,
)

owed_is : (c : After-owed-owed) (l : LoggedExecution)
    → IsOwing c.args.tables.now c.args.place l c.args.before
    → c.owed-owed.result ≡ owed_if_running l
owed_is c l owing =
    c.owed-owed.ensures l
    (entry_at c.args.tables.now c.args.place c.args.before l c.index.result.now owing
    c.index.ensures) owing.few

pub overflow_sub-tables : goal.overflow_sub-tables
overflow_sub-tables c = c.requires.entry.1.may.0

pub overflow_add-tables : goal.overflow_add-tables
overflow_add-tables c =
    let owing = c.requires.entry.1 in
    let is = owed_is (goal.at.overflow_add-tables c).After-owed-owed c.requires.entry.0 owing in
    let small = part_small c.requires.entry.0 owing.few in
    let below = owing.may.1 in
    omega (arith, is, small, below)

pub returns : goal.returns
returns c l owing =
    ap (λ n. record c.args.tables.now {
      owed_by_running = c.args.tables.now.owed_by_running - c.args.before + n;
    }) (owed_is (goal.at.returns c).After-owed-owed l owing)
