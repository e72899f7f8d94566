-- What a row of an execution or a door leaves of what the tables say.
use Rattle.std.proofs.Common.{◌≡◌, ◌∙◌, ◌≤◌, ◌<◌, ◌+◌, ◌-◌, ◌^◌, min, ℕ, suc, List, ◌∷◌, length, map, Bool, false, Some, slice_get, get_or, ap, sym, subst, arith, if◌then◌else◌}
use Rattle.std.proofs.lemmas.Option.{slice_get-get_or, slice_get_within}
use Rattle.rb_causes.specs.declared.row.Row.{Row}
use Rattle.rb_acl.specs.Numbering.{AreNumbered}
use Rattle.rb_plan.specs.declared.world.World.{World}
use Rattle.rb_log.specs.Rows.{is_opened, is_second_opening, is_zone, is_nodes, is_jobs, is_policy, counted_bytes}
use Rattle.rb_log.specs.World.{latest, count_of_kind, is_fire, projects_at, put_nodes, put_latest, with_fire, with_jobs, world_with, zones_of}
use Rattle.rb_log.specs.Executions.{Execution as LoggedExecution, executions, running_now, draw_of}
use Rattle.rb_log.specs.Sums.{open_doors, open_leaves, workers_of}
use Rattle.rb_log.specs.LogState.{log_state, checks_again, counted_at, world_of}
use Rattle.rb_tables.specs.Due.{project_nexts}
use Rattle.rb_tables.specs.Tables.{AreEntries, IsEntry, AreLogTables, latest_of_nodes, nexts, owed_among}
use Rattle.rb_tables.specs.declared.execution.Execution.{Execution}
use Rattle.rb_tables.specs.declared.tables.Tables.{Tables}
use Rattle.rb_tables.proofs.Entries.{entries_many, entry_at}

-- the row neither opens a desk nor imports anything, and no schedule asked for it
pub record IsPlain (row : Row) : Type 0 where
  pub opened : is_opened row ≡ false
  pub zone : is_zone row ≡ false
  pub nodes : is_nodes row ≡ false
  pub jobs : is_jobs row ≡ false
  pub policy : is_policy row ≡ false
  pub fire : is_fire row ≡ false

-- what no plain row changes
pub record Keeps (old new : Tables) : Type 0 where
  pub draw : new.draw ≡ old.draw
  pub workers : new.workers ≡ old.workers
  pub checks : new.checks ≡ old.checks
  pub zones : new.zones.items ≡ old.zones.items
  pub zones_number : new.zones_number ≡ old.zones_number
  pub nodes : new.nodes.items ≡ old.nodes.items
  pub due : nexts new ≡ nexts old
  pub files : new.files.items ≡ old.files.items
  pub jobs_number : new.jobs_number ≡ old.jobs_number
  pub world : new.world ≡ record old.world { running = new.world.running }

-- what a plain row may change
pub record Changes (new : Tables) (past : List Row) (row : Row) : Type 0 where
  pub counted : new.counted ≡ min (counted_at past + counted_bytes row) (2 ^ 64 - 1)
  pub last : new.last ≡ Some row.at
  pub doors : new.doors.items ≡ open_doors (row ∷ past)
  pub leaves : new.leaves.items ≡ open_leaves (row ∷ past)
  pub owed : new.owed_by_running ≡ owed_among (executions (row ∷ past))
  pub marks : AreEntries new.executions.items (executions (row ∷ past))
  pub running : new.world.running ≡ running_now (executions (row ∷ past))

-- otherwise as before
unless : {A : Type 0} (b : Bool) (x y : A) → b ≡ false → y ≡ (if b then x else y)
unless b x y h = ap (λ t. if t then x else y) (sym h)

pub says_on : (old new : Tables) (past : List Row) (row : Row) → IsPlain row
    → AreLogTables old (log_state past) → Keeps old new → Changes new past row
    → AreLogTables new (log_state (row ∷ past))
says_on old new past row plain says keeps changes =
    let files = unless (is_policy row) (put_latest row (latest is_policy past))
    (latest is_policy past) plain.policy in
    let zones = unless (is_zone row) (put_latest row (latest is_zone past)) (latest is_zone past)
    plain.zone in
    let projects : projects_at past ≡ projects_at (row ∷ past) =
    unless (is_fire row) (map (with_fire row) (projects_at past)) (projects_at past) plain.fire
    ∙ unless (is_jobs row)
    (map (with_jobs (zones_of (latest is_zone past)) row) (projects_at past)) _ plain.jobs
    ∙ unless (is_nodes row) (put_nodes row (projects_at past)) _ plain.nodes in
    record {
      counted = changes.counted;
      last = changes.last;
      draw = keeps.draw ∙ says.draw
          ∙ unless (is_opened row) row.c (draw_of past) plain.opened;
      workers = keeps.workers ∙ says.workers
          ∙ unless (is_opened row) row.b (workers_of past) plain.opened;
      checks = keeps.checks ∙ says.checks
          ∙ unless (is_opened row) (is_second_opening row) (checks_again past) plain.opened;
      doors = changes.doors;
      leaves = changes.leaves;
      owed = changes.owed;
      zones = keeps.zones ∙ says.zones ∙ zones;
      zones_number = keeps.zones_number ∙ says.zones_number
          ∙ unless (is_zone row) (suc (count_of_kind is_zone past)) (count_of_kind is_zone past)
          plain.zone;
      nodes = keeps.nodes ∙ says.nodes ∙ ap (map latest_of_nodes) projects;
      due = keeps.due ∙ says.due
          ∙ ap (λ (w : World). map project_nexts w.projects) (sym keeps.world);
      files = keeps.files ∙ says.files ∙ files;
      few_files = subst (λ fs. length fs ≤ 64) (sym keeps.files) says.few_files;
      jobs_number = keeps.jobs_number ∙ says.jobs_number
          ∙ unless (is_jobs row) (suc (count_of_kind is_jobs past)) (count_of_kind is_jobs past)
          plain.jobs;
      executions = changes.marks;
      world = keeps.world
          ∙ ap (λ rs. record old.world { running = rs }) changes.running
          ∙ ap (λ (w : World). record w { running = running_now (executions (row ∷ past)) })
          says.world
          ∙ world_with_is past row zones projects files
          (unless (is_policy row) (suc (count_of_kind is_policy past)) (count_of_kind is_policy past)
          plain.policy);
      numbered = subst AreNumbered (sym (ap (λ (w : World). w.policies) keeps.world))
          says.numbered;
    }
  where
    world_with_is : (past : List Row) (row : Row)
        → latest is_zone past ≡ latest is_zone (row ∷ past)
        → projects_at past ≡ projects_at (row ∷ past)
        → latest is_policy past ≡ latest is_policy (row ∷ past)
        → count_of_kind is_policy past ≡ count_of_kind is_policy (row ∷ past)
        → record (world_of (log_state past)) { running = running_now (executions (row ∷ past)) }
        ≡ world_of (log_state (row ∷ past))
    world_with_is past row z p f n =
        let running = running_now (executions (row ∷ past)) in
        ap (λ zs. world_with zs (projects_at past) (latest is_policy past)
        (count_of_kind is_policy past) running) z
        ∙ ap (λ ps. world_with (latest is_zone (row ∷ past)) ps (latest is_policy past)
        (count_of_kind is_policy past) running) p
        ∙ ap (λ fs. world_with (latest is_zone (row ∷ past)) (projects_at (row ∷ past)) fs
        (count_of_kind is_policy past) running) f
        ∙ ap (λ m. world_with (latest is_zone (row ∷ past)) (projects_at (row ∷ past))
        (latest is_policy (row ∷ past)) m running) n

-- ---- the execution at a place

-- it is what the log says
pub desk_is : (t : Tables) (past : List Row) → AreLogTables t (log_state past) → (k : ℕ)
    (e : LoggedExecution) → slice_get (executions past) k ≡ Some e → (x : Execution)
    → slice_get t.executions.items k ≡ Some x → IsEntry x e
desk_is t past says k e get x is =
    entry_at t.executions.items (executions past) says.executions k x e is get

-- and there is one wherever the log says one
pub desk_low : (t : Tables) (past : List Row) → AreLogTables t (log_state past) → (k : ℕ)
    (e : LoggedExecution) → slice_get (executions past) k ≡ Some e
    → k < length t.executions.items
desk_low t past says k e get =
    let low = slice_get_within (executions past) k e get in
    let many = entries_many t.executions.items (executions past) says.executions in
    omega (arith, low, many)

pub read_is : (t : Tables) (past : List Row) → AreLogTables t (log_state past) → (k : ℕ)
    (e : LoggedExecution) → slice_get (executions past) k ≡ Some e → (x : Execution)
    → x ≡ get_or t.executions.items k x → IsEntry x e
read_is t past says k e get x is =
    desk_is t past says k e get x
    (slice_get-get_or t.executions.items k x (desk_low t past says k e get) ∙ ap Some (sym is))
