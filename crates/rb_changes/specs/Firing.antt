-- What a fire does to the jobs of a world.
use Rattle.std.specs.Prelude.{ℕ, ℤ, List, map, bytes_eq, Option, Some, None, if◌then◌else◌}
use Rattle.rb_plan.specs.declared.world.HeldJob.{HeldJob}
use Rattle.rb_plan.specs.declared.world.Project.{Project}

-- the job of this id was looked at last at this moment
abbrev pub fired : List ℕ → ℤ → HeldJob → HeldJob
fired id at held = if bytes_eq held.id id then record held { looked = at } else held

-- so are the jobs of a project
abbrev pub fired_in : List ℕ → ℤ → Project → Project
fired_in id at p = record p { jobs = map (fired id at) p.jobs }

-- the jobs of this id in all projects, if one was fired
abbrev pub fired_if : Option (List ℕ) → ℤ → List Project → List Project
fired_if None at ps = ps
fired_if (Some id) at ps = map (fired_in id at) ps
