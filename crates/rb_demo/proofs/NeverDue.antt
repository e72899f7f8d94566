-- No job of the demo is ever due, since none has a schedule.
use Rattle.std.proofs.Common.{◌≡◌, ◌∙◌, ℕ, ℤ, List, [], ◌∷◌, ◌++◌, map, refl, ap}
use Rattle.std.specs.List.{flat_map, filter_map}
use Rattle.rb_plan.specs.declared.world.Project.{Project}
use Rattle.rb_plan.specs.declared.world.Running.{Running}
use Rattle.rb_plan.specs.declared.world.World.{World}
use Rattle.rb_log.specs.LogState.{LogState, world_of}
use Rattle.rb_log.specs.Moves.{only}
use Rattle.rb_log.specs.Ticks.{DueJob, due_job, due_jobs, first_by_id, tick, tick_on}
use Rattle.rb_log.specs.World.{LoggedProject, project_with}
use Rattle.rb_log.specs.declared.answer.Answer.TheVariants as answer
use Rattle.rb_demo.specs.Rounds.{setting_of}
use Rattle.rb_demo.specs.Settings.{Setting, demo_world}

-- what is due of the projects of a world
abbrev due_of : ℤ → List Project → List DueJob
due_of now ps = flat_map (λ (p : Project). filter_map (due_job now) p.jobs) ps

-- that of a log is due in its world
due_in_world : (now : ℤ) (ps : List LoggedProject)
    → due_jobs now ps ≡ due_of now (map project_with ps)
due_in_world now [] = refl
due_in_world now (p ∷ ps) = ap (λ ds. filter_map (due_job now) p.jobs ++ ds) (due_in_world now ps)

none_due : (d : Setting) (now : ℤ) → due_of now (demo_world d).projects ≡ []
none_due d now = refl

-- so a tick is quiet
pub never_due : (nodes : ℕ) (running : List Running) (s : LogState)
    → world_of s ≡ record (demo_world (setting_of nodes)) { running = running }
    → (now : ℤ) → tick s now ≡ only answer.Quiet
never_due nodes running s world now =
    let none : due_jobs now s.projects ≡ [] =
    due_in_world now s.projects ∙ ap (λ (w : World). due_of now w.projects) world
    ∙ none_due (setting_of nodes) now in
    ap (λ ds. tick_on s now (first_by_id ds)) none
