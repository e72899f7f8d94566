use Rattle.std.proofs.Common.{◌≡◌, ◌∙◌, List, true, Contains, ap, nat_eq, arith}
use Rattle.rb_causes.specs.declared.row.Row.{Row}
use Rattle.rb_log.specs.Executions.{executions, is_running}
use Rattle.rb_log.specs.LogState.{log_state}
use Rattle.rb_log.proofs.RoomLaws.{open_runs}
use Rattle.rb_changes.proofs.EndedRows.{OpenAt, open_at, open_here}
use Rattle.rb_tables.proofs.FewLeaves.{has_few}
use Rattle.rb_tables.proofs.Saying.{desk_low, read_is}
use Rattle.rb_tables.specs.Tables.{IsTabled}
use Rattle.rb_desk.proofs.OpenLeaves.{leaf_numbered, numbers_here}
use Rattle.rb_desk.proofs.following.is_leaf.Goals as goal
use Rattle.rb_desk.proofs.following.is_leaf.Goals.{After-place_of}

pub place_of-requires : goal.place_of-requires
place_of-requires c =
    let o = open_at c.log_laws.ensures c.requires.0 c.args.claimed.now c.requires.1.legal
    c.requires.2 in
    omega (arith, o.1.at)

here : (c : After-place_of) (past : List Row) → IsTabled c.args.tables.now past
    → Contains (log_state past).leaves c.args.claimed.now
    → OpenAt past c.args.claimed.now c.place_of.result
here c past tabled has =
    open_here c.log_laws.ensures past c.args.claimed.now tabled.legal has c.place_of.result
    c.place_of.ensures

pub index-requires : goal.index-requires
index-requires c =
    let o = here c c.requires.0 c.requires.1 c.requires.2 in
    let low = desk_low c.args.tables.now c.requires.0 c.requires.1.says c.place_of.result
    o.execution o.found in
    omega (arith, low, c.args.tables.now.executions.ok.0)

pub leaf_number-requires : goal.leaf_number-requires
leaf_number-requires c =
    let past = c.requires.0 in
    let o = here (goal.at.leaf_number-requires c).After-place_of past c.requires.1 c.requires.2 in
    let same = read_is c.args.tables.now past c.requires.1.says c.place_of.result o.execution
    o.found c.index.result.now c.index.ensures in (
      o.execution,
      same.is,
      has_few c.log_laws.ensures past c.place_of.result o.execution c.requires.1.legal o.found,
    )

pub returns-then-claimed-execution : goal.returns-then-claimed-execution
returns-then-claimed-execution c past tabled has =
    let claimed = c.args.claimed.now in
    let o = here (goal.at.returns-then-claimed-execution c).After-place_of past tabled has in
    let same = read_is c.args.tables.now past tabled.says c.place_of.result o.execution o.found
    c.index.result.now c.index.ensures in
    let few = has_few c.log_laws.ensures past c.place_of.result o.execution tabled.legal o.found in
    let runs : is_running o.execution ≡ true =
    open_runs o.execution.accepted.plan o.execution.marks claimed.leaf o.stays_open o.kept in
    ap (λ n. nat_eq n c.args.leaf) (c.leaf_number.ensures o.execution same.is few runs)
    ∙ leaf_numbered past claimed c.place_of.result c.args.leaf o
    ∙ numbers_here (executions past) c.args.execution c.args.leaf claimed
    c.if-claimed-execution.true
