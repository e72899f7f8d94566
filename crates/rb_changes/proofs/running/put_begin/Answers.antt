use Rattle.std.proofs.Common.{◌≡◌, ◌∙◌, ◌<◌, ◌+◌, ◌-◌, ◌^◌, min, ◌++◌, ◌∷◌, [], List, Some, length, w64, ap, refl, sym, arith, subst, vec_len, vec_capacity}
use Rattle.std.proofs.lemmas.Int.{to_z-of_z}
use Rattle.std.specs.Vec.{with_item}
use Rattle.rb_causes.specs.declared.row.Row.{Row}
use Rattle.rb_marks.specs.declared.mark.Mark.TheVariants.{Begin as BeginOf}
use Rattle.rb_log.specs.Executions.{Execution as LoggedExecution}
use Rattle.rb_log.specs.Rows.{counted_bytes}
use Rattle.rb_tables.specs.Changes.{Comes}
use Rattle.rb_tables.specs.Leaves.{HasFewLeaves}
use Rattle.rb_tables.specs.Running.{IsOwing, owed_if_running, with_mark}
use Rattle.rb_tables.specs.Tables.{IsEntry, IsOf, nexts}
use Rattle.rb_tables.specs.declared.change.TableEffect.TheVariants as effects
use Rattle.rb_tables.specs.declared.tables.Tables.{Tables}
use Rattle.rb_tables.proofs.FewLeaves.{has_few}
use Rattle.rb_tables.proofs.Lists.{set_there}
use Rattle.rb_tables.proofs.Saying.{desk_low, read_is}
use Rattle.rb_changes.proofs.BegunRows.{begun_runs, begun_says, running_entry}
use Rattle.rb_changes.proofs.OneMark.{counted_more}
use Rattle.rb_changes.proofs.OwedAt.{may_owe, still_few}
use Rattle.rb_changes.proofs.running.put_begin.Goals as goal
use Rattle.rb_changes.proofs.running.put_begin.Goals.{After-begin, After-index, After-index_mut-execution, After-log_laws, After-owed-owed}

low_at : (c : After-log_laws) (past : List Row) (row : Row)
    → Comes c.args.tables.now c.args.at c.args.counted
    (effects.Begin c.args.place c.args.leaf c.args.worker) past row
    → c.args.place < length c.args.tables.now.executions.items
low_at c past row comes =
    desk_low c.args.tables.now past comes.tabled.says c.args.place comes.effect.execution
    comes.effect.at.found

pub index-requires : goal.index-requires
index-requires c =
    let low = low_at (goal.at.index-requires c).After-log_laws c.requires.comes.0
    c.requires.comes.1 c.requires.comes.2 in
    omega (arith, low, c.args.tables.now.executions.ok.0)

first_at : (c : After-index) (past : List Row) (row : Row)
    → (comes : Comes c.args.tables.now c.args.at c.args.counted
    (effects.Begin c.args.place c.args.leaf c.args.worker) past row)
    → IsEntry c.index.result.now comes.effect.execution
first_at c past row comes =
    read_is c.args.tables.now past comes.tabled.says c.args.place comes.effect.execution
    comes.effect.at.found c.index.result.now c.index.ensures

few_at : (c : After-log_laws) (past : List Row) (row : Row)
    → (comes : Comes c.args.tables.now c.args.at c.args.counted
    (effects.Begin c.args.place c.args.leaf c.args.worker) past row)
    → HasFewLeaves comes.effect.execution
few_at c past row comes =
    has_few c.log_laws.ensures past c.args.place comes.effect.execution comes.tabled.legal
    comes.effect.at.found

pub owed-owed-requires : goal.owed-owed-requires
owed-owed-requires c =
    let comes = c.requires.comes.2 in (
      comes.effect.execution,
      first_at (goal.at.owed-owed-requires c).After-index c.requires.comes.0 c.requires.comes.1
          comes,
      few_at (goal.at.owed-owed-requires c).After-log_laws c.requires.comes.0
          c.requires.comes.1 comes,
    )

owed_at : (c : After-owed-owed) (past : List Row) (row : Row)
    → (comes : Comes c.args.tables.now c.args.at c.args.counted
    (effects.Begin c.args.place c.args.leaf c.args.worker) past row)
    → c.owed-owed.result ≡ owed_if_running comes.effect.execution
owed_at c past row comes =
    c.owed-owed.ensures comes.effect.execution (read_is c.args.tables.now past comes.tabled.says c.args.place comes.effect.execution
    comes.effect.at.found c.index.result.now c.index.ensures)
    (has_few c.log_laws.ensures past c.args.place comes.effect.execution
    comes.tabled.legal comes.effect.at.found)

same_at : (c : After-index_mut-execution) (past : List Row) (row : Row)
    → (comes : Comes c.args.tables.now c.args.at c.args.counted
    (effects.Begin c.args.place c.args.leaf c.args.worker) past row)
    → IsEntry c.index_mut-execution.result.now comes.effect.execution
same_at c past row comes =
    read_is c.args.tables.now past comes.tabled.says c.args.place comes.effect.execution
    comes.effect.at.found c.index_mut-execution.result.now c.index_mut-execution.ensures.value

pub begin-requires-clause-first : goal.begin-requires-clause-first
begin-requires-clause-first c =
    let comes = c.requires.comes.2 in
    let same = same_at (goal.at.begin-requires-clause-first c).After-index_mut-execution
    c.requires.comes.0 c.requires.comes.1 comes in
    (comes.effect.execution, same.is, comes.effect.first)

begun_at : (c : After-begin) (past : List Row) (row : Row)
    → (comes : Comes c.args.tables.now c.args.at c.args.counted
    (effects.Begin c.args.place c.args.leaf c.args.worker) past row)
    → IsOf c.begin.new.self (with_mark comes.effect.execution (BeginOf c.args.leaf))
begun_at c past row comes =
    c.begin.ensures comes.effect.execution (read_is c.args.tables.now past comes.tabled.says c.args.place comes.effect.execution
    comes.effect.at.found c.index_mut-execution.result.now c.index_mut-execution.ensures.value).is

owing_at : (c : After-begin) (past : List Row) (row : Row)
    → (comes : Comes c.args.tables.now c.args.at c.args.counted
    (effects.Begin c.args.place c.args.leaf c.args.worker) past row)
    → IsOwing (record c.args.tables.now {
      executions = with_item c.args.tables.now.executions c.args.place c.begin.new.self;
    }) c.args.place (with_mark comes.effect.execution (BeginOf c.args.leaf)) c.owed-owed.result
owing_at c past row comes =
    let e : LoggedExecution = comes.effect.execution in record {
      execution = c.begin.new.self;
      found = set_there c.args.tables.now.executions.items c.args.place c.begin.new.self
          (desk_low c.args.tables.now past comes.tabled.says c.args.place
          comes.effect.execution comes.effect.at.found);
      entry = running_entry c.begin.new.self (with_mark e (BeginOf c.args.leaf))
          (begun_at c past row comes) (begun_runs e c.args.leaf comes.effect.first);
      few = still_few e (with_mark e (BeginOf c.args.leaf)) refl
          (has_few c.log_laws.ensures past c.args.place comes.effect.execution
          comes.tabled.legal comes.effect.at.found);
      may = may_owe c.log_laws.ensures c.args.tables.now past comes.tabled c.args.place e
          comes.effect.at.found c.owed-owed.result (c.owed-owed.ensures comes.effect.execution (read_is c.args.tables.now past comes.tabled.says c.args.place comes.effect.execution
          comes.effect.at.found c.index.result.now c.index.ensures) (has_few c.log_laws.ensures past c.args.place comes.effect.execution
          comes.tabled.legal comes.effect.at.found));
    }

pub owe_anew-requires : goal.owe_anew-requires
owe_anew-requires c =
    let comes = c.requires.comes.2 in record {
      entry = (
        with_mark comes.effect.execution (BeginOf c.args.leaf),
        owing_at (goal.at.owe_anew-requires c).After-begin c.requires.comes.0 c.requires.comes.1
            comes,
      );
    }

pub push_reserved-requires : goal.push_reserved-requires
push_reserved-requires c =
    let comes = c.requires.comes.2 in
    let owes = c.owe_anew.ensures (with_mark comes.effect.execution (BeginOf c.args.leaf))
    (owing_at (goal.at.push_reserved-requires c).After-begin c.requires.comes.0
    c.requires.comes.1 comes) in
    subst (λ (t : Tables). vec_len t.leaves < vec_capacity t.leaves) (sym owes)
    c.requires.spare.leaves

pub returns : goal.returns
returns c past row comes =
    let effect = comes.effect in
    let old = c.args.tables.now in
    let e : LoggedExecution = effect.execution in
    let y : LoggedExecution = with_mark e (BeginOf c.args.leaf) in
    let begun = begun_at (goal.at.returns c).After-begin past row comes in
    let owed = owed_at (goal.at.returns c).After-owed-owed past row comes in
    let owes = c.owe_anew.ensures y (owing_at (goal.at.returns c).After-begin past row comes) in
    let number = ap (λ (x : LoggedExecution). x.number) begun.same ∙ effect.at.named in
    let all = c.note.ensures in
    begun_says c.log_laws.ensures old c.note.new.tables past row c.args.place c.args.leaf
    c.args.worker comes.tabled.says effect (record {
      keeps = record {
        draw = ap (λ (t : Tables). t.draw) all ∙ ap (λ (t : Tables). t.draw) owes;
        workers = ap (λ (t : Tables). t.workers) all ∙ ap (λ (t : Tables). t.workers) owes;
        checks = ap (λ (t : Tables). t.checks) all ∙ ap (λ (t : Tables). t.checks) owes;
        zones = ap (λ (t : Tables). t.zones.items) all ∙ ap (λ (t : Tables). t.zones.items) owes;
        zones_number = ap (λ (t : Tables). t.zones_number) all
            ∙ ap (λ (t : Tables). t.zones_number) owes;
        nodes = ap (λ (t : Tables). t.nodes.items) all ∙ ap (λ (t : Tables). t.nodes.items) owes;
        due = ap nexts all ∙ ap nexts owes;
        files = ap (λ (t : Tables). t.files.items) all ∙ ap (λ (t : Tables). t.files.items) owes;
        jobs_number = ap (λ (t : Tables). t.jobs_number) all
            ∙ ap (λ (t : Tables). t.jobs_number) owes;
        world = ap (λ (t : Tables). t.world) all ∙ ap (λ (t : Tables). t.world) owes
            ∙ sym (ap (λ (t : Tables). record old.world { running = t.world.running }) all
            ∙ ap (λ (t : Tables). record old.world { running = t.world.running }) owes);
      };
      counted = ap (λ (t : Tables). t.counted) all
          ∙ ap (λ (t : Tables). min (t.counted + c.args.counted) (2 ^ 64 - 1)) owes
          ∙ counted_more old past (counted_bytes row) c.args.counted _ comes.tabled.says
          comes.counted_is refl;
      last = ap (λ (t : Tables). t.last) all
          ∙ ap Some (to_z-of_z w64 c.args.at c.ranges.at ∙ comes.at_is);
      doors = ap (λ (t : Tables). t.doors.items) all ∙ ap (λ (t : Tables). t.doors.items) owes;
      leaves = ap (λ (t : Tables). t.leaves.items) all
          ∙ c.push_reserved.ensures.items
          ∙ ap (λ (t : Tables). t.leaves.items ++ record {
            execution = c.begin.new.self.number;
            leaf = c.args.leaf;
            worker = c.args.worker;
          } ∷ []) owes
          ∙ ap (λ n. old.leaves.items
          ++ record { execution = n; leaf = c.args.leaf; worker = c.args.worker } ∷ []) number
          ∙ ap (λ n. old.leaves.items
          ++ record { execution = row.a; leaf = c.args.leaf; worker = n } ∷ []) effect.claimer;
      execution = c.begin.new.self;
      executions = ap (λ (t : Tables). t.executions.items) all
          ∙ ap (λ (t : Tables). t.executions.items) owes;
      owed = ap (λ (t : Tables). t.owed_by_running) all
          ∙ ap (λ (t : Tables). t.owed_by_running) owes
          ∙ ap (λ n. old.owed_by_running - n + owed_if_running y) owed;
      running = ap (λ (t : Tables). t.world.running) all
          ∙ ap (λ (t : Tables). t.world.running) owes;
    }) begun
