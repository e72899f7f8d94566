use Rattle.std.proofs.Common.{arith}
use Rattle.rb_tables.proofs.Saying.{desk_low}
use Rattle.rb_runs.proofs.Checking.{node_low, none_allowed, none_over, none_since, none_unopened, none_without, some_denied}
use Rattle.rb_runs.proofs.claiming.refused_again.Goals as goal
use Rattle.rb_runs.proofs.claiming.refused_again.Goals.{then-not-tables-via-then-not-tables, then-not-tables-via-else-not-tables+then-not-opens}

pub index-execution-requires : goal.index-execution-requires
index-execution-requires c =
    let start = c.requires.2 in
    let low = desk_low c.args.tables.now c.requires.0 c.requires.1.says c.args.start.place
    start.execution start.found in
    omega (arith, low, c.args.tables.now.executions.ok.0)

pub returns-in_default : goal.returns-in_default
returns-in_default c past tabled start =
    none_over c.args.tables.now past tabled c.args.start start c.index-execution.result.now
    c.index-execution.ensures c.log_laws.ensures c.in_default.field-0 c.in_default.is

pub returns-then-execution-tables : goal.returns-then-execution-tables
returns-then-execution-tables c past tabled start =
    none_since c.args.tables.now past tabled c.args.start start c.index-execution.result.now
    c.index-execution.ensures c.accepted_may_be_run.ensures c.if-execution-tables.true

pub returns-then-not-tables : goal.returns-then-not-tables
returns-then-not-tables c past tabled start =
    elim c.then-not-tables.branch [
      | then-not-tables-via-then-not-tables w ↦
          none_without c.args.tables.now past tabled c.args.start start
          c.index-execution.result.now c.index-execution.ensures w.if-not-tables.true
      | then-not-tables-via-else-not-tables+then-not-opens w ↦
          none_unopened c.args.tables.now past tabled c.args.start start
          c.index-execution.result.now c.index-execution.ensures c.in-Going.going c.in-Going.is
          w.opens.result w.opens.ensures w.if-not-opens.true
    ]

pub bounds-as_slice-start : goal.bounds-as_slice-start
bounds-as_slice-start c =
    node_low c.args.tables.now c.requires.0 c.requires.1 c.args.start c.requires.2
    c.index-execution.result.now c.index-execution.ensures c.log_laws.ensures c.in-Going.going
    c.in-Going.is c.as_slice.result.now c.as_slice.ensures

pub returns-then-is_allowed : goal.returns-then-is_allowed
returns-then-is_allowed c past tabled start =
    none_allowed c.args.tables.now past tabled c.args.start start c.index-execution.result.now
    c.index-execution.ensures c.log_laws.ensures c.in-Going.going c.in-Going.is
    c.as_slice.result.now c.as_slice.ensures c.index-as_slice-start.result
    c.index-as_slice-start.is c.as_str-project.result.now c.as_str-project.ensures
    c.in_ok-decision.decision c.in_ok-decision.ensures c.is_allowed.result c.is_allowed.ensures
    c.if-is_allowed.true

pub returns-else-is_allowed : goal.returns-else-is_allowed
returns-else-is_allowed c past tabled start =
    some_denied c.args.tables.now past tabled c.args.start start c.index-execution.result.now
    c.index-execution.ensures c.log_laws.ensures c.in-Going.going c.in-Going.is
    c.as_slice.result.now c.as_slice.ensures c.index-as_slice-start.result
    c.index-as_slice-start.is c.as_str-project.result.now c.as_str-project.ensures
    c.in_ok-decision.decision c.in_ok-decision.ensures c.is_allowed.result c.opens.result
    c.is_allowed.ensures c.if-is_allowed.false c.if-not-tables.false c.opens.ensures
    c.if-not-opens.false
