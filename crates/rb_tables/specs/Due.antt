-- When a job is due next.
use Rattle.std.specs.Prelude.{ℤ, int_le, Bool, false, ◌&&◌, List, map, Option, Some, None, if◌then◌else◌}
use Rattle.rb_cron.specs.Due.{Source}
use Rattle.rb_cron.specs.Next.{next_due}
use Rattle.rb_plan.specs.declared.world.HeldJob.{HeldJob}
use Rattle.rb_plan.specs.declared.world.Project.{Project}

-- the first instant of a schedule behind a moment
abbrev pub next_by : ℤ → Option Source → Option ℤ
next_by looked None = None
next_by looked (Some source) = next_due source looked

-- the first instant for which a job is due since it was looked at last, whenever that comes
abbrev pub next_of : HeldJob → Option ℤ
next_of held =
    if held.job.enabled && held.job.schedule_enabled
    then next_by held.looked held.job.schedule
    else None

-- such an instant has come
abbrev pub has_come : ℤ → Option ℤ → Bool
has_come now None = false
has_come now (Some t) = int_le t now

-- those of the jobs of a project
abbrev pub project_nexts : Project → List (Option ℤ)
project_nexts p = map next_of p.jobs
