use Rattle.std.specs.declared.alloc.Global.{Global}
use Rattle.std.proofs.Common.{◌≡◌, ◌∙◌, ℤ, List, [], map, Some, Vec, w64, to_z, of_z, ap, subst, sym, rules}
use Rattle.rb_plan.specs.declared.world.Running.{Running}
use Rattle.rb_plan.specs.declared.world.World.{World}
use Rattle.rb_log.specs.declared.task.OpenLeaf.{OpenLeaf}
use Rattle.rb_log.specs.Executions.{executions}
use Rattle.rb_log.specs.Restarts.{reopened}
use Rattle.rb_tables.specs.Tables.{AreEntries}
use Rattle.rb_tables.specs.declared.execution.Execution.{Execution}
use Rattle.rb_tables.specs.declared.tables.Tables.{Tables}
use Rattle.rb_changes.specs.declared.opening.Opening.{Opening}
use Rattle.rb_changes.proofs.OpeningRows.{opening_says}
use Rattle.rb_changes.proofs.opening.put_opening.Goals as goal

pub lose_all-requires : goal.lose_all-requires
lose_all-requires c = (
  c.requires.0,
  record {
    legal = c.requires.2.tabled.legal;
    entries = c.requires.2.tabled.says.executions;
    runs = c.as_slice.ensures ∙ c.replace-running.ensures.value
        ∙ ap (λ (w : World). w.running) c.requires.2.tabled.says.world;
  },
)

-- the tables with what an opening puts
abbrev opened_with : Tables → Opening → ℤ → Vec OpenLeaf Global → Vec Execution Global
    → List Running → Tables
opened_with old o at leaves executions running = record old {
  last = Some at;
  draw = o.draw;
  checks = o.checks;
  workers = o.workers;
  doors = o.doors;
  leaves = leaves;
  owed_by_running = 0;
  executions = executions;
  world = record old.world { running = running };
}

pub returns : goal.returns
returns c past row opens =
    let old : Tables = c.args.tables.now in
    let new : Tables = c.note_bare.new.tables in
    let o : Opening = c.args.opening in
    let moment : to_z w64 (of_z w64 o.at) ≡ o.at = search rules in
    let noted = c.note_bare.ensures in
    opening_says old new past row o opens (record {
      entries = subst (λ es. AreEntries es (map reopened (executions past)))
          (sym (ap (λ (t : Tables). t.executions.items) noted))
          (c.lose_all.ensures past (record {
            legal = opens.tabled.legal;
            entries = opens.tabled.says.executions;
            runs = c.as_slice.ensures ∙ c.replace-running.ensures.value
                ∙ ap (λ (w : World). w.running) opens.tabled.says.world;
          }));
      leaves = ap (λ (t : Tables). t.leaves.items) noted ∙ c.clear.ensures.items;
      rest = noted
          ∙ ap (λ m. opened_with old o m c.clear.new.self c.lose_all.new.executions
          c.replace-running.new.dest) moment
          ∙ ap (opened_with old o o.at c.clear.new.self c.lose_all.new.executions)
          (c.replace-running.ensures.after ∙ c.new.ensures)
          ∙ ap (λ leaves. opened_with old o o.at leaves c.lose_all.new.executions [])
          (sym (ap (λ (t : Tables). t.leaves) noted))
          ∙ ap (λ es. opened_with old o o.at new.leaves es [])
          (sym (ap (λ (t : Tables). t.executions) noted));
    })
