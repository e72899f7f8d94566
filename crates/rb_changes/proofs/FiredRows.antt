-- What the projects of a world are behind a row that fires a job.
use Rattle.std.proofs.Common.{◌≡◌, ◌∙◌, ◌≤◌, ◌+◌, ◌-◌, ◌^◌, min, ℕ, suc, ℤ, List, [], ◌∷◌, length, map, nat_eq, Bool, true, false, Option, Some, None, ap, sym, subst, refl, if◌then◌else◌}
use Rattle.rb_causes.specs.declared.row.Row.{Row}
use Rattle.rb_plan.specs.declared.world.World.{World}
use Rattle.rb_acl.specs.Numbering.{AreNumbered}
use Rattle.rb_log.specs.Executions.{executions, running_now}
use Rattle.rb_log.specs.LogState.{counted_at, log_state, world_of}
use Rattle.rb_log.specs.Rows.{counted_bytes, skipped_kind}
use Rattle.rb_log.specs.World.{LoggedProject, is_fire, project_with, projects_at, with_fire}
use Rattle.rb_tables.specs.Changes.{Comes, Fires}
use Rattle.rb_tables.specs.Due.{project_nexts}
use Rattle.rb_tables.specs.Tables.{AreEntries, AreLogTables, latest_of_nodes, nexts, owed_among}
use Rattle.rb_tables.specs.declared.change.TableEffect.TheVariants.{Skip}
use Rattle.rb_tables.specs.declared.tables.Tables.{Tables}
use Rattle.rb_tables.proofs.Marked.{policies_before}
use Rattle.rb_changes.specs.Firing.{fired_if, fired_in}
use Rattle.rb_changes.proofs.ClosedRows.{no_mark, unmarked}
use Rattle.rb_changes.proofs.OneMark.{counted_more}

-- as the row does it to the projects of the log
pub fire_maps : (row : Row) (id : List ℕ) (at : ℤ) (ps : List LoggedProject) → id ≡ row.name
    → at ≡ row.at
    → map (fired_in id at) (map project_with ps) ≡ map project_with (map (with_fire row) ps)
fire_maps row id at [] named is = refl
fire_maps row id at (p ∷ ps) named is =
    ap (λ q. q ∷ map (fired_in id at) (map project_with ps))
    (ap (λ n. fired_in n at (project_with p)) named
    ∙ ap (λ t. fired_in row.name t (project_with p)) is)
    ∙ ap (λ qs. project_with (with_fire row p) ∷ qs) (fire_maps row id at ps named is)

-- where a row fires a job, or none
pub fires_if : (row : Row) (id : Option (List ℕ)) (at : ℤ) (ps : List LoggedProject)
    → Fires row id → at ≡ row.at
    → fired_if id at (map project_with ps)
    ≡ map project_with (if is_fire row then map (with_fire row) ps else ps)
fires_if row None at ps fires is =
    ap (λ b. map project_with (if b then map (with_fire row) ps else ps)) (sym fires)
fires_if row (Some id) at ps fires is =
    fire_maps row id at ps fires.1 is
    ∙ ap (λ b. map project_with (if b then map (with_fire row) ps else ps)) (sym fires.0)

-- the last nodes of each project stay
nodes_of_fired : (row : Row) (ps : List LoggedProject)
    → map latest_of_nodes ps ≡ map latest_of_nodes (map (with_fire row) ps)
nodes_of_fired row [] = refl
nodes_of_fired row (p ∷ ps) = ap (λ ls. latest_of_nodes p ∷ ls) (nodes_of_fired row ps)

nodes_by : (b : Bool) (row : Row) (ps : List LoggedProject)
    → map latest_of_nodes ps
    ≡ map latest_of_nodes (if b then map (with_fire row) ps else ps)
nodes_by true row ps = nodes_of_fired row ps
nodes_by false row ps = refl

pub nodes_stay : (row : Row) (ps : List LoggedProject)
    → map latest_of_nodes ps
    ≡ map latest_of_nodes (if is_fire row then map (with_fire row) ps else ps)
nodes_stay row ps = nodes_by (is_fire row) row ps

-- ---- a due job that is skipped

-- what a row of this kind changes
skip_state : (row : Row) (past : List Row) → row.kind ≡ skipped_kind
    → log_state (row ∷ past) ≡ record (log_state past) {
      rows = suc (length past);
      counted = counted_at past + counted_bytes row;
      last = Some row.at;
      projects = map (with_fire row) (projects_at past);
      executions = executions (row ∷ past);
    }
skip_state row past kind =
    subst (λ k. log_state (record row { kind = k } ∷ past) ≡ record (log_state past) {
      rows = suc (length past);
      counted = counted_at past + counted_bytes (record row { kind = k });
      last = Some row.at;
      projects = map (with_fire (record row { kind = k })) (projects_at past);
      executions = executions (record row { kind = k } ∷ past);
    }) (sym kind) refl

-- it marks no execution
skip_marks_none : (row : Row) (past : List Row) → row.kind ≡ skipped_kind
    → executions past ≡ executions (row ∷ past)
skip_marks_none row past kind =
    subst (λ k. executions past ≡ executions (record row { kind = k } ∷ past)) (sym kind)
    (sym (unmarked (policies_before past) (record row { kind = skipped_kind }) (executions past)
    refl (λ e. no_mark (nat_eq row.a e.number))))

-- the tables with a job that was fired
abbrev pub with_skip : Tables → ℤ → ℕ → Tables → Tables
with_skip t at n fired = record fired { counted = n; last = Some at }

pub skip_is_put : (t fired : Tables) (past : List Row) (row : Row) (at : ℤ) (counted n : ℕ)
    (id : List ℕ) → Comes t at counted (Skip id) past row
    → fired ≡ record t {
      due = fired.due;
      world = record t.world { projects = map (fired_in id at) t.world.projects };
    }
    → nexts fired ≡ map project_nexts fired.world.projects
    → n ≡ min (t.counted + counted) (2 ^ 64 - 1)
    → AreLogTables (with_skip t at n fired) (log_state (row ∷ past))
skip_is_put t fired past row at counted n id comes is due more =
    let says = comes.tabled.says in
    let same = skip_marks_none row past comes.effect.kind in
    let nodes = nodes_of_fired row (projects_at past) in
    subst (AreLogTables (with_skip t at n fired)) (sym (skip_state row past comes.effect.kind))
    (record {
      counted = counted_more t past (counted_bytes row) counted n says comes.counted_is more;
      last = ap Some comes.at_is;
      draw = ap (λ (x : Tables). x.draw) is ∙ says.draw;
      workers = ap (λ (x : Tables). x.workers) is ∙ says.workers;
      checks = ap (λ (x : Tables). x.checks) is ∙ says.checks;
      doors = ap (λ (x : Tables). x.doors.items) is ∙ says.doors;
      leaves = ap (λ (x : Tables). x.leaves.items) is ∙ says.leaves;
      owed = ap (λ (x : Tables). x.owed_by_running) is ∙ says.owed ∙ ap owed_among same;
      zones = ap (λ (x : Tables). x.zones.items) is ∙ says.zones;
      zones_number = ap (λ (x : Tables). x.zones_number) is ∙ says.zones_number;
      nodes = ap (λ (x : Tables). x.nodes.items) is ∙ says.nodes ∙ nodes;
      due = due;
      files = ap (λ (x : Tables). x.files.items) is ∙ says.files;
      few_files = subst (λ fs. length fs ≤ 64) (sym (ap (λ (x : Tables). x.files.items) is))
          says.few_files;
      jobs_number = ap (λ (x : Tables). x.jobs_number) is ∙ says.jobs_number;
      executions = subst (λ es. AreEntries es (executions (row ∷ past)))
          (sym (ap (λ (x : Tables). x.executions.items) is))
          (subst (AreEntries t.executions.items) same says.executions);
      world = ap (λ (x : Tables). x.world) is
          ∙ ap (λ (w : World). record w { projects = map (fired_in id at) w.projects }) says.world
          ∙ ap (λ ps. record (world_of (log_state past)) { projects = ps })
          (fire_maps row id at (projects_at past) comes.effect.named comes.at_is)
          ∙ ap (λ es. record (world_of (log_state past)) {
            projects = map project_with (map (with_fire row) (projects_at past));
            running = running_now es;
          }) same;
      numbered = subst AreNumbered (sym (ap (λ (x : Tables). x.world.policies) is)) says.numbered;
    })
