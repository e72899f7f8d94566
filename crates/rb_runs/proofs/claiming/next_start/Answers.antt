use Rattle.std.proofs.Common.{◌∙◌, List, add-one, ap, sym, arith}
use Rattle.std.specs.Prelude.{drop}
use Rattle.rb_causes.specs.declared.row.Row.{Row}
use Rattle.rb_log.specs.Claims.{claim_among}
use Rattle.rb_log.specs.LogState.{log_state, running_executions}
use Rattle.rb_tables.specs.Tables.{IsTabled}
use Rattle.rb_tables.proofs.Saying.{read_is}
use Rattle.rb_tables.proofs.Starts.{Stands, claim_goes_on, claim_stops, item_runs, none_left, stands}
use Rattle.rb_runs.proofs.claiming.next_start.Goals as goal
use Rattle.rb_runs.proofs.claiming.next_start.Goals.{After-place_of-place}

pub place_of-place-requires : goal.place_of-place-requires
place_of-place-requires c =
    let at = item_runs c.log_laws.ensures c.args.tables.now c.requires.0 c.requires.1.says
    c.as_slice-running-items.result.now c.as_slice-running-items.ensures
    c.loop-running.running-index c.running-item.result c.loop-running-test.true
    c.running-item.is in
    omega (arith, at.number)

stands_at : (c : After-place_of-place) (past : List Row) → IsTabled c.args.tables.now past
    → Stands c.args.tables.now past c.loop-running.running-index c.place_of-place.result
stands_at c past tabled =
    stands c.args.tables.now past tabled.says c.loop-running.running-index c.place_of-place.result
    c.running-item.result
    (item_runs c.log_laws.ensures c.args.tables.now past tabled.says
    c.as_slice-running-items.result.now c.as_slice-running-items.ensures
    c.loop-running.running-index c.running-item.result c.loop-running-test.true
    c.running-item.is) c.place_of-place.ensures

pub index-requires : goal.index-requires
index-requires c =
    let at = stands_at c c.requires.0 c.requires.1 in
    omega (arith, at.low, c.args.tables.now.executions.ok.0)

pub returns-in-Some : goal.returns-in-Some
returns-in-Some c past tabled =
    let at = stands_at (goal.at.returns-in-Some c).After-place_of-place past tabled in
    let same = read_is c.args.tables.now past tabled.says c.place_of-place.result at.execution
    at.found c.index.result.now c.index.ensures in
    let first = sym (c.in-Some.ensures at.execution same.is.progress) in
    record {
      execution = at.execution;
      found = at.found;
      first = first;
      gives = λ now worker.
          c.loop-running.invariant past tabled now worker
          ∙ claim_stops (log_state past) now worker (running_executions (log_state past))
          c.loop-running.running-index at.execution c.in-Some.leaf at.there first;
    }

pub loop-running-preserved : goal.loop-running-preserved
loop-running-preserved c past tabled now worker =
    let at = stands_at (goal.at.loop-running-preserved c).After-place_of-place past tabled in
    let same = read_is c.args.tables.now past tabled.says c.place_of-place.result at.execution
    at.found c.index.result.now c.index.ensures in
    let none = sym (c.first_startable.ensures at.execution same.is.progress)
    ∙ c.in_default.is in
    c.loop-running.invariant past tabled now worker
    ∙ claim_goes_on (log_state past) now worker (running_executions (log_state past))
    c.loop-running.running-index at.execution at.there none
    ∙ ap (λ n. claim_among (log_state past) now worker (drop n (running_executions (log_state past))))
    (sym (add-one c.loop-running.running-index))

pub returns : goal.returns
returns c past tabled now worker =
    c.loop-running.invariant past tabled now worker
    ∙ ap (claim_among (log_state past) now worker)
    (none_left c.args.tables.now past tabled.says c.as_slice-running-items.result.now
    c.as_slice-running-items.ensures c.loop-running.running-index c.loop-running-test.false)
