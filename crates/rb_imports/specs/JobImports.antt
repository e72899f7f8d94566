-- The rules of an import of jobs, on the projects of a world.
use Rattle.std.specs.Prelude.{◌≡◌, ℕ, Bool, true, not, ◌&&◌, ◌||◌, List, [], ◌∷◌, ◌++◌, find, Option, Some, None, Result, Ok, bytes_eq, slice_get}
use Rattle.std.specs.List.{list_any}
use Rattle.rb_causes.specs.Texts.{has_text}
use Rattle.rb_yaml.specs.Faults.{◌>>=◌}
use Rattle.rb_job.specs.declared.job.Job.{Job}
use Rattle.rb_plan.specs.Access.{Access}
use Rattle.rb_plan.specs.declared.world.HeldJob.{HeldJob}
use Rattle.rb_plan.specs.declared.world.Project.{Project}
use Rattle.rb_log.specs.Imports.{may_import_job, action_by}
use Rattle.rb_log.specs.Moves.{must}
use Rattle.rb_log.specs.World.{job_id}
use Rattle.rb_log.specs.declared.answer.Answer.{Answer}
use Rattle.rb_log.specs.declared.answer.Answer.TheVariants as answer
use Rattle.rb_log.specs.declared.answer.ImportedJob.{ImportedJob}
use Rattle.rb_tables.specs.Worlds.{held_among}

-- the project has this name
abbrev pub is_called : List ℕ → Project → Bool
is_called name p = bytes_eq p.name name

-- one of these jobs is held under this id
abbrev pub holds : List ℕ → List HeldJob → Bool
holds id jobs = list_any (λ held. bytes_eq held.id id) jobs

-- another project that holds a job under this id
abbrev pub holds_elsewhere : List ℕ → List ℕ → Project → Bool
holds_elsewhere project id p = not (is_called project p) && holds id p.jobs

abbrev pub is_taken : List Project → List ℕ → List (List ℕ) → List ℕ → Bool
is_taken projects project earlier id =
    list_any (holds_elsewhere project id) projects || has_text earlier id

-- no id is taken by another project or by one before it
abbrev pub ids_free : List Project → List ℕ → List (List ℕ) → List (List ℕ) → Result Bool Answer
ids_free projects project earlier [] = Ok true
ids_free projects project earlier (id ∷ ids) =
    must (not (is_taken projects project earlier id)) (answer.IdTaken id) >>= λ free.
    ids_free projects project (earlier ++ id ∷ []) ids

-- held under another id than this, with the group and the name of the job
abbrev pub is_other : List ℕ → Job → HeldJob → Bool
is_other id job held =
    not (bytes_eq held.id id)
    && (bytes_eq held.job.group job.group && bytes_eq held.job.name job.name)

-- the project, in which another job has the group and the name of this one
abbrev pub has_other : List ℕ → List ℕ → Job → Project → Bool
has_other project id job p = is_called project p && list_any (is_other id job) p.jobs

abbrev pub name_free : List Project → List ℕ → Job → Result Bool Answer
name_free projects project job =
    must (not (list_any (has_other project (job_id project job) job) projects))
    (answer.NameTaken (job_id project job))

-- each job keeps a rule, one after another
abbrev pub each_keeps : (Job → Result Bool Answer) → List Job → Result Bool Answer
each_keeps rule [] = Ok true
each_keeps rule (job ∷ jobs) = rule job >>= λ kept. each_keeps rule jobs

abbrev pub may_import : Access → List ℕ → List Project → Job → Result Bool Answer
may_import access project projects job =
    may_import_job access (held_among (job_id project job) projects) job

abbrev pub imported_job : List ℕ → List Project → Job → ImportedJob
imported_job project projects job = record {
  id = job_id project job;
  action = action_by (held_among (job_id project job) projects) job;
}

-- a project of this name stands at this place
pub record IsPlaceOf (projects : List Project) (name : List ℕ) (place : ℕ) : Type 0 where
  pub project : Project
  pub found : slice_get projects place ≡ Some project
  pub named : project.name ≡ name

abbrev pub IsPlace : List Project → List ℕ → Option ℕ → Type 0
IsPlace projects name None = find (is_called name) projects ≡ None
IsPlace projects name (Some place) = IsPlaceOf projects name place
