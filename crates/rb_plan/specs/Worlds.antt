-- What is found in a world.
use Rattle.std.specs.Prelude.{ℕ, ◌&&◌, List, [], ◌∷◌, find, bytes_eq, Option, Some, None, option_map, min, if◌then◌else◌}
use Rattle.std.specs.Option.{option_or}
use Rattle.rb_plan.specs.declared.world.World.{World}
use Rattle.rb_plan.specs.declared.world.Project.{Project}
use Rattle.rb_plan.specs.declared.world.HeldJob.{HeldJob}
use Rattle.rb_plan.specs.declared.world.Running.{Running}

-- a job and the project that holds it
pub record Found : Type 0 where
  pub project : Project
  pub held : HeldJob

-- the job of this id in a project
abbrev pub found_in : List ℕ → Project → Option Found
found_in id project =
    option_map (λ held. record { project = project; held = held })
    (find (λ held. bytes_eq held.id id) project.jobs)

-- the job of this id in the first of the projects that holds one
abbrev pub found_among : List ℕ → List Project → Option Found
found_among id [] = None
found_among id (project ∷ projects) = option_or (found_in id project) (found_among id projects)

-- the job of this id
abbrev pub job_found : World → List ℕ → Option Found
job_found world id = found_among id world.projects

-- the job of this group and name in a project
abbrev pub referred_job : Project → List ℕ → List ℕ → Option HeldJob
referred_job project group name =
    find (λ held. bytes_eq held.job.group group && bytes_eq held.job.name name) project.jobs

-- the lesser of a number and another one, if there is another
abbrev pub lesser : ℕ → Option ℕ → ℕ
lesser n None = n
lesser n (Some m) = min n m

-- the lowest number among the executions of a job
abbrev pub lowest_running : List ℕ → List Running → Option ℕ
lowest_running id [] = None
lowest_running id (r ∷ rs) =
    if bytes_eq r.job id then Some (lesser r.execution (lowest_running id rs))
    else lowest_running id rs

-- the lowest execution of this job that runs
abbrev pub running_of : World → List ℕ → Option ℕ
running_of world id = lowest_running id world.running
