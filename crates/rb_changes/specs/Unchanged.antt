-- Whether a job that is held is imported again as it is.
use Rattle.std.specs.Prelude.{Bool}
use Rattle.rb_log.specs.Sameness.{same_job}
use Rattle.rb_plan.specs.declared.world.HeldJob.{HeldJob}

-- both jobs are the same; it stays closed, since what sameness says of two jobs is long
unfoldable pub is_unchanged : HeldJob → HeldJob → Bool
is_unchanged held new = same_job held.job new.job
