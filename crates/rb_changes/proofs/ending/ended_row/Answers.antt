use Rattle.std.proofs.Common.{◌≡◌, ◌∙◌, List, true, Some, w64, to_z, of_z, ap, sym, arith}
use Rattle.std.proofs.lemmas.Int.{to_z-of_z}
use Rattle.rb_causes.specs.declared.row.Row.{Row}
use Rattle.rb_log.specs.Claims.{reported_end_row, leaf_number_in}
use Rattle.rb_log.specs.Executions.{Execution as LoggedExecution, is_running}
use Rattle.rb_log.specs.Rows.{end_row}
use Rattle.rb_log.proofs.RoomLaws.{open_runs}
use Rattle.rb_tables.specs.Running.{MayEnd}
use Rattle.rb_tables.proofs.FewLeaves.{has_few}
use Rattle.rb_changes.proofs.EndedRows.{OpenAt, open_at, open_here}
use Rattle.rb_tables.proofs.Saying.{desk_low, read_is}
use Rattle.rb_changes.proofs.ending.ended_row.Goals as goal
use Rattle.rb_changes.proofs.ending.ended_row.Goals.{After-place_of}

pub place_of-requires : goal.place_of-requires
place_of-requires c =
    let may = c.requires.1 in
    let o = open_at c.log_laws.ensures c.requires.0 c.args.claimed may.tabled.legal may.claim in
    omega (arith, o.1.at)

here : (c : After-place_of) (past : List Row)
    → MayEnd c.args.tables.now past c.args.claimed c.args.ending
    → OpenAt past c.args.claimed c.place_of.result
here c past may =
    open_here c.log_laws.ensures past c.args.claimed may.tabled.legal may.claim
    c.place_of.result c.place_of.ensures

pub index-execution-requires : goal.index-execution-requires
index-execution-requires c =
    let o = here c c.requires.0 c.requires.1 in
    let low = desk_low c.args.tables.now c.requires.0 c.requires.1.tabled.says c.place_of.result
    o.execution o.found in
    omega (arith, low, c.args.tables.now.executions.ok.0)

pub leaf_number-leaf-requires : goal.leaf_number-leaf-requires
leaf_number-leaf-requires c =
    let past = c.requires.0 in
    let o = here (goal.at.leaf_number-leaf-requires c).After-place_of past c.requires.1 in
    let same = read_is c.args.tables.now past c.requires.1.tabled.says c.place_of.result
    o.execution o.found c.index-execution.result.now c.index-execution.ensures in (
      o.execution,
      same.is,
      has_few c.log_laws.ensures past c.place_of.result o.execution c.requires.1.tabled.legal
          o.found,
    )

pub returns : goal.returns
returns c past may =
    let o = here (goal.at.returns c).After-place_of past may in
    let claimed = c.args.claimed in
    let e : LoggedExecution = o.execution in
    let same = read_is c.args.tables.now past may.tabled.says c.place_of.result e o.found
    c.index-execution.result.now c.index-execution.ensures in
    let few = has_few c.log_laws.ensures past c.place_of.result e may.tabled.legal o.found in
    let runs : is_running e ≡ true =
    open_runs e.accepted.plan e.marks claimed.leaf o.stays_open o.kept in
    let number : c.leaf_number-leaf.result ≡ leaf_number_in e claimed.leaf =
    c.leaf_number-leaf.ensures e same.is few runs in
    let row : c.end_row.result
    ≡ end_row c.args.at claimed.execution (leaf_number_in e claimed.leaf) c.args.ending =
    c.end_row.ensures
    ∙ ap (λ n. end_row (to_z w64 (of_z w64 c.args.at)) claimed.execution n c.args.ending)
    number
    ∙ ap (λ z. end_row z claimed.execution (leaf_number_in e claimed.leaf) c.args.ending)
    (to_z-of_z w64 c.args.at c.ranges.at) in
    ap (reported_end_row c.args.at (record { claimed = claimed; ending = c.args.ending })) o.among
    ∙ ap Some (sym row)
