-- The job that a tick fires, where it is held, and what becomes of it.
use Rattle.std.specs.Prelude.{◌≡◌, ◌<◌, ℕ, ℤ, List, [], length, map, drop, slice_get, Option, Some, None}
use Rattle.std.specs.List.{flat_map, filter_map}
use Rattle.rb_causes.specs.declared.row.Row.{Row}
use Rattle.rb_plan.specs.Refusals.{refusal_number}
use Rattle.rb_plan.specs.declared.refusal.Refusal.{Refusal}
use Rattle.rb_plan.specs.declared.world.HeldJob.{HeldJob}
use Rattle.rb_plan.specs.declared.world.Project.{Project}
use Rattle.rb_log.specs.LogState.{log_state}
use Rattle.rb_log.specs.Rows.{skipped_row}
use Rattle.rb_log.specs.Ticks.{DueJob as LoggedDue, due_job, tick_on}
use Rattle.rb_tables.specs.Changes.{IsEffect, moved_of}
use Rattle.rb_tables.specs.Due.{project_nexts}
use Rattle.rb_tables.specs.Tables.{nexts}
use Rattle.rb_tables.specs.declared.change.Change.{Change}
use Rattle.rb_tables.specs.declared.change.Outcome.TheVariants.{Fired}
use Rattle.rb_tables.specs.declared.change.TableEffect.TheVariants.{Skip}
use Rattle.rb_tables.specs.declared.tables.Tables.{Tables}
use Rattle.rb_runs.specs.declared.ticking.DueJob.{DueJob}
use Rattle.rb_runs.specs.declared.ticking.JobPlace.{JobPlace}

-- The job at a place.
pub record IsJobAt (projects : List Project) (place : JobPlace) (held : HeldJob) : Type 0 where
  pub project : Project
  pub in_projects : slice_get projects place.project ≡ Some project
  pub in_project : slice_get project.jobs place.job ≡ Some held

-- there is one
abbrev pub IsPlaceIn : List Project → JobPlace → Type 0
IsPlaceIn projects place = (held : HeldJob) × IsJobAt projects place held

-- It stands for the job that is due, by its place.
pub record IsDueJob (projects : List Project) (d : DueJob) (x : LoggedDue) : Type 0 where
  pub held : IsJobAt projects d.place x.held
  pub instant : d.instant ≡ x.instant

-- so it does if there is one, and else there is none
abbrev pub MayBeDueJob : List Project → Option DueJob → Option LoggedDue → Type 0
MayBeDueJob projects None None = Unit {0}
MayBeDueJob projects None (Some x) = ⊥
MayBeDueJob projects (Some d) None = ⊥
MayBeDueJob projects (Some d) (Some x) = IsDueJob projects d x

-- the jobs of a project that are due, and those of all projects
abbrev pub due_of : ℤ → Project → List LoggedDue
due_of now p = filter_map (due_job now) p.jobs

abbrev pub due_among : ℤ → List Project → List LoggedDue
due_among now projects = flat_map (due_of now) projects

-- those of a project from this job on, and none where there is no project
abbrev pub due_left : ℤ → Option Project → ℕ → List LoggedDue
due_left now None job = []
due_left now (Some p) job = filter_map (due_job now) (drop job p.jobs)

-- those of the project at a place
abbrev pub due_if : ℤ → Option Project → List LoggedDue
due_if now None = []
due_if now (Some p) = due_of now p

abbrev pub due_in : ℤ → List Project → ℕ → List LoggedDue
due_in now projects place = due_if now (slice_get projects place)

-- when each job is due next is told
abbrev pub AreDue : Tables → Type 0
AreDue t = nexts t ≡ map project_nexts t.world.projects

-- of the project at a place too
pub record IsDueOf (t : Tables) (place : ℕ) : Type 0 where
  pub told : AreDue t
  pub there : place < length t.world.projects

-- The job is skipped for this instant, as its run is refused so.
pub record IsSkipped (held : HeldJob) (instant : ℕ) (refusal : Refusal) (at : ℤ) (c : Change)
    : Type 0 where
  pub outcome : c.outcome ≡ Fired 0
  pub row : c.row ≡ skipped_row at instant (refusal_number refusal) held.id
  pub does : c.effect ≡ Skip held.id

-- The change is what a tick gives where this job is the first that is due.
pub record IsTick (past : List Row) (at : ℤ) (due : LoggedDue) (c : Change) : Type 0 where
  pub moved : tick_on (log_state past) at (Some due) ≡ moved_of c
  pub effect : IsEffect past c.row c.effect
