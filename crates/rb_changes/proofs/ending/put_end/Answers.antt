use Rattle.std.proofs.Common.{◌≡◌, ◌∙◌, ◌+◌, ◌-◌, ◌∷◌, List, Some, w64, to_z, of_z, ap, refl, subst, sym, arith, length-set}
use Rattle.std.proofs.lemmas.Int.{to_z-of_z}
use Rattle.std.specs.Vec.{with_item}
use Rattle.rb_causes.specs.declared.row.Row.{Row}
use Rattle.rb_causes.proofs.Lists.{some_is}
use Rattle.rb_marks.specs.declared.mark.Mark.TheVariants.{End}
use Rattle.rb_log.specs.Claims.{reported_end_row, leaf_number_in}
use Rattle.rb_log.specs.Executions.{Execution as LoggedExecution}
use Rattle.rb_log.specs.LogState.{log_state}
use Rattle.rb_log.specs.Rows.{counted_bytes, end_row}
use Rattle.rb_log.specs.Sums.{without_leaf}
use Rattle.rb_tables.specs.Running.{IsTold, MayEnd, owed_if_running, runs, with_mark}
use Rattle.rb_tables.specs.Tables.{AreLogTables, IsEntry}
use Rattle.rb_tables.specs.declared.tables.Tables.{Tables}
use Rattle.rb_changes.proofs.EndedRows.{OpenAt, ended_says, open_at, open_here}
use Rattle.rb_tables.proofs.FewLeaves.{has_few}
use Rattle.rb_tables.proofs.Lists.{set_again, set_there}
use Rattle.rb_tables.proofs.Saying.{desk_low, read_is}
use Rattle.rb_changes.proofs.OneMark.{counted_bare}
use Rattle.rb_changes.proofs.OwedAt.{may_owe, still_few}
use Rattle.rb_changes.proofs.Told.{end_told}
use Rattle.rb_changes.proofs.ending.put_end.Goals as goal
use Rattle.rb_changes.proofs.ending.put_end.Goals.{After-finish, After-index, After-owed-owed, After-place_of-place}

pub place_of-place-requires : goal.place_of-place-requires
place_of-place-requires c =
    let may = c.requires.1 in
    let o = open_at c.log_laws.ensures c.requires.0 c.args.claimed may.tabled.legal may.claim in
    omega (arith, o.1.at)

here : (c : After-place_of-place) (past : List Row)
    → MayEnd c.args.tables.now past c.args.claimed c.args.ending
    → OpenAt past c.args.claimed c.place_of-place.result
here c past may =
    open_here c.log_laws.ensures past c.args.claimed may.tabled.legal may.claim
    c.place_of-place.result c.place_of-place.ensures

pub index-requires : goal.index-requires
index-requires c =
    let o = here (goal.at.index-requires c).After-place_of-place c.requires.0 c.requires.1 in
    let low = desk_low c.args.tables.now c.requires.0 c.requires.1.tabled.says
    c.place_of-place.result o.execution o.found in
    omega (arith, low, c.args.tables.now.executions.ok.0)

first_at : (c : After-index) (past : List Row)
    → (may : MayEnd c.args.tables.now past c.args.claimed c.args.ending)
    → (o : OpenAt past c.args.claimed c.place_of-place.result)
    → IsEntry c.index.result.now o.execution
first_at c past may o =
    read_is c.args.tables.now past may.tabled.says c.place_of-place.result o.execution o.found
    c.index.result.now c.index.ensures

pub owed-owed-requires : goal.owed-owed-requires
owed-owed-requires c =
    let may = c.requires.1 in
    let o = here (goal.at.owed-owed-requires c).After-place_of-place c.requires.0 may in (
      o.execution,
      first_at (goal.at.owed-owed-requires c).After-index c.requires.0 may o,
      has_few c.log_laws.ensures c.requires.0 c.place_of-place.result o.execution
          may.tabled.legal o.found,
    )

owed_at : (c : After-owed-owed) (past : List Row)
    → (may : MayEnd c.args.tables.now past c.args.claimed c.args.ending)
    → (o : OpenAt past c.args.claimed c.place_of-place.result)
    → c.owed-owed.result ≡ owed_if_running o.execution
owed_at c past may o =
    c.owed-owed.ensures o.execution
    (read_is c.args.tables.now past may.tabled.says c.place_of-place.result o.execution o.found
    c.index.result.now c.index.ensures)
    (has_few c.log_laws.ensures past c.place_of-place.result o.execution may.tabled.legal o.found)

pub index_mut-requires : goal.index_mut-requires
index_mut-requires c =
    let o = here (goal.at.index_mut-requires c).After-place_of-place c.requires.0 c.requires.1 in
    let low = desk_low c.args.tables.now c.requires.0 c.requires.1.tabled.says
    c.place_of-place.result o.execution o.found in
    omega (arith, low, c.args.tables.now.executions.ok.0)

pub finish-requires : goal.finish-requires
finish-requires c =
    let past = c.requires.0 in
    let o = here (goal.at.finish-requires c).After-place_of-place past c.requires.1 in
    let same = read_is c.args.tables.now past c.requires.1.tabled.says c.place_of-place.result
    o.execution o.found c.index_mut.result.now c.index_mut.ensures.value in
    (o.execution, same.is, o.stays_open, o.kept)

pub retire-requires-clause-place : goal.retire-requires-clause-place
retire-requires-clause-place c =
    let o = here (goal.at.retire-requires-clause-place c).After-place_of-place c.requires.0
    c.requires.1 in
    let low = desk_low c.args.tables.now c.requires.0 c.requires.1.tabled.says
    c.place_of-place.result o.execution o.found in
    omega (
      arith,
      low,
      length-set c.args.tables.now.executions.items c.place_of-place.result c.finish.new.self,
    )

-- whether it runs behind the End is told
told_at : (c : After-finish) (past : List Row)
    → (may : MayEnd c.args.tables.now past c.args.claimed c.args.ending)
    → (o : OpenAt past c.args.claimed c.place_of-place.result)
    → IsTold (record c.args.tables.now {
      leaves = c.take_leaf.new.leaves;
      executions = with_item c.args.tables.now.executions c.place_of-place.result
          c.finish.new.self;
    }) c.place_of-place.result (with_mark o.execution (End c.args.claimed.leaf c.args.ending))
told_at c past may o =
    let place = c.place_of-place.result in
    let claimed = c.args.claimed in
    let e = o.execution in
    let laws = c.log_laws.ensures in
    let same = read_is c.args.tables.now past may.tabled.says place e o.found
    c.index_mut.result.now c.index_mut.ensures.value in
    let low = desk_low c.args.tables.now past may.tabled.says place e o.found in record {
      execution = c.finish.new.self;
      found = set_there c.args.tables.now.executions.items place c.finish.new.self low;
      is = c.finish.ensures e same.is;
      tiers = record {
        nodes = (laws.leaves past place e may.tabled.legal o.found).nodes;
        few = (laws.plans past place e may.tabled.legal o.found).nodes;
      };
      told = ap (runs (with_mark e (End claimed.leaf c.args.ending)))
          (c.take_leaf.ensures ∙ ap (without_leaf claimed) may.tabled.says.leaves)
          ∙ end_told laws past claimed c.args.ending may.tabled.legal place o;
    }

pub retire-requires-clause-told : goal.retire-requires-clause-told
retire-requires-clause-told c =
    let may = c.requires.1 in
    let o = here (goal.at.retire-requires-clause-told c).After-place_of-place c.requires.0 may in (
      with_mark o.execution (End c.args.claimed.leaf c.args.ending),
      told_at (goal.at.retire-requires-clause-told c).After-finish c.requires.0 may o,
      still_few o.execution (with_mark o.execution (End c.args.claimed.leaf c.args.ending)) refl
          (has_few c.log_laws.ensures c.requires.0 c.place_of-place.result o.execution
          may.tabled.legal o.found),
    )

pub retire-requires-clause-owed : goal.retire-requires-clause-owed
retire-requires-clause-owed c =
    let may = c.requires.1 in
    let o = here (goal.at.retire-requires-clause-owed c).After-place_of-place c.requires.0 may in
    may_owe c.log_laws.ensures c.args.tables.now c.requires.0 may.tabled c.place_of-place.result
    o.execution o.found c.owed-owed.result
    (owed_at (goal.at.retire-requires-clause-owed c).After-owed-owed c.requires.0 may o)

pub returns : goal.returns
returns c past row may is =
    let old = c.args.tables.now in
    let claimed = c.args.claimed in
    let place = c.place_of-place.result in
    let o = here (goal.at.returns c).After-place_of-place past may in
    let y : LoggedExecution = with_mark o.execution (End claimed.leaf c.args.ending) in
    let few = has_few c.log_laws.ensures past place o.execution may.tabled.legal o.found in
    let owed = owed_at (goal.at.returns c).After-owed-owed past may o in
    let retires = c.retire.ensures y (told_at (goal.at.returns c).After-finish past may o)
    (still_few o.execution y refl few) in
    let whole = c.note_bare.ensures ∙ ap (λ (t : Tables). record t {
      last = Some (to_z w64 (of_z w64 c.args.at));
    }) retires.rest in
    let added : Row =
    end_row c.args.at claimed.execution (leaf_number_in o.execution claimed.leaf) c.args.ending in
    let row_is : added ≡ row = some_is added row
    (sym (ap (reported_end_row c.args.at (record { claimed = claimed; ending = c.args.ending })) o.among)
    ∙ is) in
    subst (λ r. AreLogTables c.note_bare.new.tables (log_state (r ∷ past))) row_is
    (subst (λ t. AreLogTables t (log_state (added ∷ past))) (sym whole)
    (ended_says c.log_laws.ensures old _ past claimed c.args.at c.args.ending may.tabled.says
    may.formed place o (record {
      keeps = record {
        draw = refl;
        workers = refl;
        checks = refl;
        zones = refl;
        zones_number = refl;
        nodes = refl;
        due = refl;
        files = refl;
        jobs_number = refl;
        world = refl;
      };
      counted = counted_bare old past (counted_bytes added) may.tabled.says refl;
      last = ap Some (to_z-of_z w64 c.args.at c.ranges.at);
      doors = refl;
      execution = retires.execution;
      entry = retires.entry;
      executions = retires.executions
          ∙ set_again old.executions.items place c.finish.new.self retires.execution;
      owed = ap (λ n. old.owed_by_running - n + owed_if_running y) owed;
      running = refl;
    }) c.take_leaf.ensures))
