use Rattle.std.proofs.Common.{◌∙◌, ◌+◌, ◌-◌, ◌^◌, min, ◌++◌, map, option_to_list, Some, ap, sym, refl, arith}
use Rattle.std.proofs.Math.Facts.{to_z-of_z}
use Rattle.rb_tables.specs.Due.{project_nexts}
use Rattle.rb_tables.specs.Tables.{nexts}
use Rattle.rb_tables.specs.declared.tables.Tables.{Tables}
use Rattle.rb_tables.proofs.OwedRows.{owed_small, part_small}
use Rattle.rb_changes.specs.Firing.{fired_if}
use Rattle.rb_changes.proofs.RunPuts.{run_is_put}
use Rattle.rb_changes.proofs.run_puts.put_run.Goals as goal

pub owed-requires : goal.owed-requires
owed-requires c =
    let comes = c.requires.comes.2 in (
      comes.effect.execution,
      comes.effect.entry,
      comes.effect.few,
    )

pub overflow_add-tables : goal.overflow_add-tables
overflow_add-tables c =
    let comes = c.requires.comes.2 in
    let few = comes.effect.few in
    let is = c.owed.ensures comes.effect.execution comes.effect.entry few in
    let small = part_small comes.effect.execution few in
    let below = owed_small c.log_laws.ensures c.requires.comes.0 comes.tabled.legal
    comes.tabled.few in
    let was = comes.tabled.says.owed in
    omega (arith, is, small, below, was)

pub put_fire_if-requires : goal.put_fire_if-requires
put_fire_if-requires c = c.requires.comes.2.tabled.says.due

pub all_running-requires-clause-empty : goal.all_running-requires-clause-empty
all_running-requires-clause-empty c = c.requires.comes.2.effect.empty

pub returns : goal.returns
returns c past row comes =
    let old = c.args.tables.now in
    let rest = c.put_fire_if.ensures.rest in
    let all = c.note.ensures in
    run_is_put c.log_laws.ensures old c.note.new.tables past row c.args.at c.args.counted
    c.args.new comes (record {
      keeps = record {
        draw = ap (λ (t : Tables). t.draw) all ∙ ap (λ (t : Tables). t.draw) rest;
        workers = ap (λ (t : Tables). t.workers) all ∙ ap (λ (t : Tables). t.workers) rest;
        checks = ap (λ (t : Tables). t.checks) all ∙ ap (λ (t : Tables). t.checks) rest;
        zones = ap (λ (t : Tables). t.zones.items) all ∙ ap (λ (t : Tables). t.zones.items) rest;
        zones_number = ap (λ (t : Tables). t.zones_number) all
            ∙ ap (λ (t : Tables). t.zones_number) rest;
        nodes = ap (λ (t : Tables). t.nodes.items) all ∙ ap (λ (t : Tables). t.nodes.items) rest;
        due = refl;
        files = ap (λ (t : Tables). t.files.items) all ∙ ap (λ (t : Tables). t.files.items) rest;
        jobs_number = ap (λ (t : Tables). t.jobs_number) all
            ∙ ap (λ (t : Tables). t.jobs_number) rest;
        world = ap (λ (t : Tables). record t.world { projects = old.world.projects }) all
            ∙ ap (λ (t : Tables). record t.world { projects = old.world.projects }) rest
            ∙ sym (ap (λ (t : Tables). record old.world { running = t.world.running }) all
            ∙ ap (λ (t : Tables). record old.world { running = t.world.running }) rest);
      };
      counted_is = ap (λ (t : Tables). t.counted) all
          ∙ ap (λ (t : Tables). min (t.counted + c.args.counted) (2 ^ 64 - 1)) rest;
      last = ap (λ (t : Tables). t.last) all ∙ ap Some (to_z-of_z c.ranges.at);
      doors = ap (λ (t : Tables). t.doors.items) all ∙ ap (λ (t : Tables). t.doors.items) rest;
      leaves = ap (λ (t : Tables). t.leaves.items) all ∙ ap (λ (t : Tables). t.leaves.items) rest;
      owed = λ l entry few.
          ap (λ (t : Tables). t.owed_by_running) all
          ∙ ap (λ (t : Tables). t.owed_by_running) rest
          ∙ ap (λ n. old.owed_by_running + n) (c.owed.ensures l entry few);
      executions = ap (λ (t : Tables). t.executions.items) all
          ∙ ap (λ (t : Tables). t.executions.items) rest ∙ c.push_reserved.ensures.items;
      running = ap (λ (t : Tables). t.world.running) all
          ∙ ap (λ (t : Tables). t.world.running) rest
          ∙ c.of.ensures ∙ c.all_running.ensures
          ∙ ap (λ rs. rs ++ option_to_list c.args.new.new)
          (c.into_vec-there.ensures ∙ c.replace.ensures.value);
      projects = ap (λ (t : Tables). t.world.projects) all
          ∙ ap (λ (t : Tables). t.world.projects) rest
          ∙ ap (λ z. fired_if c.args.new.fired z old.world.projects) (to_z-of_z c.ranges.at);
      due = ap nexts all ∙ c.put_fire_if.ensures.due
          ∙ ap (λ (t : Tables). map project_nexts t.world.projects) (sym all);
    })
