-- An execution that began is one of the tables.
use Rattle.std.proofs.Common.{suc, ◌≡◌, ◌∙◌, ◌≤◌, ◌+◌, ◌-◌, ◌^◌, min, ◌++◌, ℕ, ℤ, List, [], ◌∷◌, map, filter, length, Bool, true, false, cond, Some, None, option_to_list, ap, sym, subst, refl, if◌then◌else◌}
use Rattle.rb_causes.specs.declared.row.Row.{Row}
use Rattle.rb_plan.specs.declared.world.Running.{Running}
use Rattle.rb_plan.specs.declared.world.World.{World}
use Rattle.rb_log.specs.Executions.{Execution as LoggedExecution, executions, running_now, is_running}
use Rattle.rb_acl.specs.Numbering.{AreNumbered}
use Rattle.rb_log.specs.LogState.{log_state, world_of, counted_at}
use Rattle.rb_log.specs.Rows.{accept_kind, counted_bytes}
use Rattle.rb_log.specs.World.{LoggedProject, is_fire, project_with, projects_at, with_fire}
use Rattle.rb_tables.specs.Running.{as_running, owed_if_running}
use Rattle.rb_tables.specs.Changes.{Comes}
use Rattle.rb_tables.specs.Due.{project_nexts}
use Rattle.rb_tables.specs.Leaves.{HasFewLeaves}
use Rattle.rb_tables.specs.LogLaws.{LogLaws}
use Rattle.rb_tables.specs.Tables.{AreEntries, AreLogTables, IsEntry, nexts, owed_among}
use Rattle.rb_tables.specs.declared.change.TableEffect.TheVariants.{Run}
use Rattle.rb_tables.specs.declared.change.RunEffect.{RunEffect}
use Rattle.rb_tables.specs.declared.tables.Tables.{Tables}
use Rattle.rb_tables.proofs.Entries.{entries_behind}
use Rattle.rb_tables.proofs.OwedRows.{owed_behind}
use Rattle.rb_tables.proofs.Saying.{Keeps}
use Rattle.rb_changes.specs.Firing.{fired_if}
use Rattle.rb_changes.proofs.FiredRows.{fires_if, nodes_stay}
use Rattle.rb_changes.proofs.OneMark.{counted_more}

abbrev looked_at : LoggedExecution → Running
looked_at e = record { execution = e.number; job = e.accepted.job }

behind_none : (b : Bool) (x : LoggedExecution)
    → map looked_at (cond b (x ∷ []) [])
    ≡ option_to_list (if b then Some (looked_at x) else None)
behind_none true x = refl
behind_none false x = refl

behind_one : (b : Bool) (e : LoggedExecution) (xs ys : List LoggedExecution) (more : List Running)
    → map looked_at xs ≡ map looked_at ys ++ more
    → map looked_at (cond b (e ∷ xs) xs) ≡ map looked_at (cond b (e ∷ ys) ys) ++ more
behind_one true e xs ys more h = ap (λ rs. looked_at e ∷ rs) h
behind_one false e xs ys more h = h

-- one more execution is looked at where it runs
running_behind : (x : LoggedExecution) (es : List LoggedExecution)
    → running_now (es ++ x ∷ []) ≡ running_now es ++ option_to_list (as_running x)
running_behind x [] = behind_none (is_running x) x
running_behind x (e ∷ es) =
    behind_one (is_running e) e (filter is_running (es ++ x ∷ [])) (filter is_running es)
    (option_to_list (as_running x)) (running_behind x es)

-- what a row of this kind changes
accept_state : (row : Row) (past : List Row) → row.kind ≡ accept_kind
    → log_state (row ∷ past) ≡ record (log_state past) {
      rows = suc (length past);
      counted = counted_at past + counted_bytes row;
      last = Some row.at;
      projects = if is_fire row then map (with_fire row) (projects_at past) else projects_at past;
      executions = executions (row ∷ past);
    }
accept_state row past kind =
    subst (λ k. log_state (record row { kind = k } ∷ past) ≡ record (log_state past) {
      rows = suc (length past);
      counted = counted_at past + counted_bytes (record row { kind = k });
      last = Some row.at;
      projects = if is_fire (record row { kind = k })
          then map (with_fire (record row { kind = k })) (projects_at past)
          else projects_at past;
      executions = executions (record row { kind = k } ∷ past);
    }) (sym kind) refl

-- What becomes of the tables by an execution that began.
pub record Begins (old new : Tables) (at : ℤ) (counted : ℕ) (e : RunEffect) : Type 0 where
  pub keeps : Keeps old (record new {
    due = old.due;
    world = record new.world { projects = old.world.projects };
  })
  pub counted_is : new.counted ≡ min (old.counted + counted) (2 ^ 64 - 1)
  pub last : new.last ≡ Some at
  pub doors : new.doors.items ≡ old.doors.items
  pub leaves : new.leaves.items ≡ old.leaves.items
  pub owed : (l : LoggedExecution) → IsEntry e.execution l → HasFewLeaves l
      → new.owed_by_running ≡ old.owed_by_running + owed_if_running l
  pub executions : new.executions.items ≡ old.executions.items ++ e.execution ∷ []
  pub running : new.world.running ≡ old.world.running ++ option_to_list e.new
  pub projects : new.world.projects ≡ fired_if e.fired at old.world.projects
  pub due : nexts new ≡ map project_nexts new.world.projects

pub run_is_put : LogLaws → (old new : Tables) (past : List Row) (row : Row) (at : ℤ)
    (counted : ℕ) (e : RunEffect) → Comes old at counted (Run e) past row
    → Begins old new at counted e
    → AreLogTables new (log_state (row ∷ past))
run_is_put laws old new past row at counted e comes begins =
    let says = comes.tabled.says in
    let begun = comes.effect.begun in
    let x : LoggedExecution = comes.effect.execution in
    let ps : List LoggedProject =
    if is_fire row then map (with_fire row) (projects_at past) else projects_at past in
    let keeps = begins.keeps in
    subst (AreLogTables new) (sym (accept_state row past comes.effect.kind))
    (record {
      counted = counted_more old past (counted_bytes row) counted new.counted says
          comes.counted_is begins.counted_is;
      last = begins.last ∙ ap Some comes.at_is;
      draw = keeps.draw ∙ says.draw;
      workers = keeps.workers ∙ says.workers;
      checks = keeps.checks ∙ says.checks;
      doors = begins.doors ∙ says.doors;
      leaves = begins.leaves ∙ says.leaves;
      owed = begins.owed x comes.effect.entry comes.effect.few
          ∙ ap (λ n. n + owed_if_running x) says.owed
          ∙ sym (owed_behind (executions past) x)
          ∙ ap owed_among (sym begun);
      zones = keeps.zones ∙ says.zones;
      zones_number = keeps.zones_number ∙ says.zones_number;
      nodes = keeps.nodes ∙ says.nodes ∙ nodes_stay row (projects_at past);
      due = begins.due;
      files = keeps.files ∙ says.files;
      few_files = subst (λ fs. length fs ≤ 64) (sym keeps.files) says.few_files;
      jobs_number = keeps.jobs_number ∙ says.jobs_number;
      executions =
          subst (λ es. AreEntries es (executions (row ∷ past))) (sym begins.executions)
          (subst (AreEntries (old.executions.items ++ e.execution ∷ [])) (sym begun)
          (entries_behind old.executions.items (executions past) says.executions e.execution x
          comes.effect.entry));
      world =
          ap (λ qs. record new.world { projects = qs }) begins.projects
          ∙ ap (λ (w : World). record w { projects = fired_if e.fired at old.world.projects })
          keeps.world
          ∙ ap (λ (w : World). record w {
            projects = fired_if e.fired at w.projects;
            running = new.world.running;
          }) says.world
          ∙ ap (λ qs. record (world_of (log_state past)) {
            projects = qs;
            running = new.world.running;
          }) (fires_if row e.fired at (projects_at past) comes.effect.fires comes.at_is)
          ∙ ap (λ rs. record (world_of (log_state past)) {
            projects = map project_with ps;
            running = rs;
          })
          (begins.running ∙ ap (λ (w : World). w.running ++ option_to_list e.new) says.world
          ∙ ap (λ o. running_now (executions past) ++ option_to_list o) comes.effect.new
          ∙ sym (running_behind x (executions past)) ∙ ap running_now (sym begun));
      numbered = subst AreNumbered (sym (ap (λ (w : World). w.policies) keeps.world))
          says.numbered;
    })
