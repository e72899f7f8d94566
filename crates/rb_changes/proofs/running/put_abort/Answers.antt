use Rattle.std.proofs.Common.{◌≡◌, ◌∙◌, ◌+◌, length, ◌<◌, ◌-◌, ◌^◌, min, ◌∷◌, List, Some, w64, to_z, of_z, ap, refl, subst, sym, arith, length-set}
use Rattle.std.proofs.lemmas.Int.{to_z-of_z}
use Rattle.std.specs.Vec.{with_item}
use Rattle.rb_causes.specs.declared.row.Row.{Row}
use Rattle.rb_marks.specs.declared.mark.Mark.TheVariants.{Abort}
use Rattle.rb_log.specs.Executions.{Execution as LoggedExecution}
use Rattle.rb_log.specs.LogState.{log_state}
use Rattle.rb_log.specs.Rows.{counted_bytes}
use Rattle.rb_tables.specs.Changes.{Comes}
use Rattle.rb_tables.specs.Leaves.{HasFewLeaves}
use Rattle.rb_tables.specs.Running.{IsTold, owed_if_running, runs, with_mark}
use Rattle.rb_tables.specs.Tables.{IsEntry, AreLogTables}
use Rattle.rb_tables.specs.declared.change.TableEffect.TheVariants as effects
use Rattle.rb_tables.specs.declared.tables.Tables.{Tables}
use Rattle.rb_tables.proofs.FewLeaves.{has_few}
use Rattle.rb_tables.proofs.Lists.{set_again, set_there}
use Rattle.rb_tables.proofs.Saying.{desk_low, read_is}
use Rattle.rb_changes.proofs.AbortedRows.{aborted_says}
use Rattle.rb_changes.proofs.OneMark.{counted_more}
use Rattle.rb_changes.proofs.OwedAt.{may_owe, still_few}
use Rattle.rb_changes.proofs.Told.{abort_told}
use Rattle.rb_changes.proofs.running.put_abort.Goals as goal
use Rattle.rb_changes.proofs.running.put_abort.Goals.{After-log_laws, After-index, After-index_mut, After-stop, After-owed-owed}

-- the execution that the row names is there
low_at : (c : After-log_laws) (past : List Row) (row : Row)
    → Comes c.args.tables.now c.args.at c.args.counted (effects.Abort c.args.place) past row
    → c.args.place < length c.args.tables.now.executions.items
low_at c past row comes =
    desk_low c.args.tables.now past comes.tabled.says (c.args.place) comes.effect.execution
    comes.effect.at.found

pub index-requires : goal.index-requires
index-requires c =
    let low = low_at (goal.at.index-requires c).After-log_laws c.requires.comes.0
    c.requires.comes.1 c.requires.comes.2 in
    omega (arith, low, c.args.tables.now.executions.ok.0)

first_at : (c : After-index) (past : List Row) (row : Row)
    → (comes : Comes c.args.tables.now c.args.at c.args.counted (effects.Abort c.args.place) past row)
    → IsEntry c.index.result.now comes.effect.execution
first_at c past row comes =
    read_is c.args.tables.now past comes.tabled.says (c.args.place) comes.effect.execution
    comes.effect.at.found c.index.result.now c.index.ensures

few_at : (c : After-log_laws) (past : List Row) (row : Row)
    → (comes : Comes c.args.tables.now c.args.at c.args.counted (effects.Abort c.args.place) past row)
    → HasFewLeaves comes.effect.execution
few_at c past row comes =
    has_few c.log_laws.ensures past (c.args.place) comes.effect.execution comes.tabled.legal
    comes.effect.at.found

pub owed-owed-requires : goal.owed-owed-requires
owed-owed-requires c =
    let comes = c.requires.comes.2 in (
      comes.effect.execution,
      first_at (goal.at.owed-owed-requires c).After-index c.requires.comes.0 c.requires.comes.1
          comes,
      few_at (goal.at.owed-owed-requires c).After-log_laws c.requires.comes.0
          c.requires.comes.1 comes,
    )

owed_at : (c : After-owed-owed) (past : List Row) (row : Row)
    → (comes : Comes c.args.tables.now c.args.at c.args.counted (effects.Abort c.args.place) past row)
    → c.owed-owed.result ≡ owed_if_running comes.effect.execution
owed_at c past row comes =
    c.owed-owed.ensures comes.effect.execution (read_is c.args.tables.now past comes.tabled.says c.args.place comes.effect.execution
    comes.effect.at.found c.index.result.now c.index.ensures)
    (has_few c.log_laws.ensures past c.args.place comes.effect.execution
    comes.tabled.legal comes.effect.at.found)

same_at : (c : After-index_mut) (past : List Row) (row : Row)
    → (comes : Comes c.args.tables.now c.args.at c.args.counted (effects.Abort c.args.place) past row)
    → IsEntry c.index_mut.result.now comes.effect.execution
same_at c past row comes =
    read_is c.args.tables.now past comes.tabled.says (c.args.place) comes.effect.execution
    comes.effect.at.found c.index_mut.result.now c.index_mut.ensures.value

pub index_mut-requires : goal.index_mut-requires
index_mut-requires c =
    let low = low_at (goal.at.index_mut-requires c).After-log_laws c.requires.comes.0
    c.requires.comes.1 c.requires.comes.2 in
    omega (arith, low, c.args.tables.now.executions.ok.0)

pub stop-requires : goal.stop-requires
stop-requires c =
    let comes = c.requires.comes.2 in
    let same = same_at (goal.at.stop-requires c).After-index_mut c.requires.comes.0
    c.requires.comes.1 comes in
    (comes.effect.execution, same.is, comes.effect.runs, comes.effect.goes_on)

pub retire-requires-clause-place : goal.retire-requires-clause-place
retire-requires-clause-place c =
    let low = low_at (goal.at.retire-requires-clause-place c).After-log_laws c.requires.comes.0
    c.requires.comes.1 c.requires.comes.2 in
    omega (arith, low, length-set c.args.tables.now.executions.items (c.args.place) c.stop.new.self)

-- whether it runs behind the row is told
told_at : (c : After-stop) (past : List Row) (row : Row)
    → (comes : Comes c.args.tables.now c.args.at c.args.counted (effects.Abort c.args.place) past row)
    → IsTold (record c.args.tables.now {
      executions = with_item c.args.tables.now.executions (c.args.place) c.stop.new.self;
    }) (c.args.place) (with_mark comes.effect.execution Abort)
told_at c past row comes =
    let effect = comes.effect in
    let same = read_is c.args.tables.now past comes.tabled.says c.args.place comes.effect.execution
    comes.effect.at.found c.index_mut.result.now c.index_mut.ensures.value in
    let low = desk_low c.args.tables.now past comes.tabled.says c.args.place
    comes.effect.execution comes.effect.at.found in
    let laws = c.log_laws.ensures in record {
      execution = c.stop.new.self;
      found = set_there c.args.tables.now.executions.items (c.args.place) c.stop.new.self low;
      is = c.stop.ensures effect.execution same.is;
      tiers = record {
        nodes = (laws.leaves past (c.args.place) effect.execution comes.tabled.legal
            effect.at.found).nodes;
        few = (laws.plans past (c.args.place) effect.execution comes.tabled.legal
            effect.at.found).nodes;
      };
      told = ap (runs (with_mark comes.effect.execution Abort)) comes.tabled.says.leaves
          ∙ abort_told laws past c.args.place effect.execution comes.tabled.legal
          effect.at.found effect.goes_on;
    }

pub retire-requires-clause-told : goal.retire-requires-clause-told
retire-requires-clause-told c =
    let comes = c.requires.comes.2 in
    let effect = comes.effect in (
      with_mark effect.execution Abort,
      told_at (goal.at.retire-requires-clause-told c).After-stop c.requires.comes.0
          c.requires.comes.1 comes,
      still_few effect.execution (with_mark effect.execution Abort) refl
          (few_at (goal.at.retire-requires-clause-told c).After-log_laws c.requires.comes.0
          c.requires.comes.1 comes),
    )

pub retire-requires-clause-owed : goal.retire-requires-clause-owed
retire-requires-clause-owed c =
    let comes = c.requires.comes.2 in
    may_owe c.log_laws.ensures c.args.tables.now c.requires.comes.0 comes.tabled (c.args.place)
    comes.effect.execution comes.effect.at.found c.owed-owed.result
    (owed_at (goal.at.retire-requires-clause-owed c).After-owed-owed c.requires.comes.0
    c.requires.comes.1 comes)

pub returns : goal.returns
returns c past row comes =
    let effect = comes.effect in
    let old = c.args.tables.now in
    let y : LoggedExecution = with_mark comes.effect.execution Abort in
    let few = few_at (goal.at.returns c).After-log_laws past row comes in
    let owed = owed_at (goal.at.returns c).After-owed-owed past row comes in
    let retires = c.retire.ensures y (told_at (goal.at.returns c).After-stop past row comes)
    (still_few effect.execution y refl few) in
    let whole = c.note.ensures ∙ ap (λ (t : Tables). record t {
      counted = min (t.counted + c.args.counted) (2 ^ 64 - 1);
      last = Some (to_z w64 (of_z w64 c.args.at));
    }) retires.rest in
    subst (λ t. AreLogTables t (log_state (row ∷ past))) (sym whole)
    (aborted_says c.log_laws.ensures old _ past row c.args.place comes.tabled.says effect
    (record {
      keeps = record {
        draw = refl;
        workers = refl;
        checks = refl;
        zones = refl;
        zones_number = refl;
        nodes = refl;
        due = refl;
        files = refl;
        jobs_number = refl;
        world = refl;
      };
      counted = counted_more old past (counted_bytes row) c.args.counted _ comes.tabled.says
          comes.counted_is refl;
      last = ap Some (to_z-of_z w64 c.args.at c.ranges.at ∙ comes.at_is);
      doors = refl;
      execution = retires.execution;
      entry = retires.entry;
      executions = retires.executions
          ∙ set_again old.executions.items (c.args.place) c.stop.new.self retires.execution;
      owed = ap (λ n. old.owed_by_running - n + owed_if_running y) owed;
      running = refl;
    }) refl)
