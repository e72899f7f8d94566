-- Who may do what, in the world of a desk.
use Rattle.std.specs.Prelude.{ℕ, Bool, List, Option, Some, None, Result, Err}
use Rattle.rb_acl.specs.declared.policy.Caller.{Caller}
use Rattle.rb_acl.specs.declared.policy.Context.TheVariants as context
use Rattle.rb_plan.specs.Access.{Access, job_decision}
use Rattle.rb_plan.specs.declared.world.Project.{Project}
use Rattle.rb_plan.specs.declared.world.World.{World}
use Rattle.rb_log.specs.Moves.{permitted, job_thing}
use Rattle.rb_log.specs.World.{ProjectJob}
use Rattle.rb_log.specs.declared.answer.Answer.{Answer}
use Rattle.rb_log.specs.declared.answer.Answer.TheVariants as answer
use Rattle.rb_tables.specs.Worlds.{held_among}

-- a caller in a project of the world
abbrev pub access_in_project : World → List ℕ → Caller → Access
access_in_project world project caller =
    record { policies = world.policies; caller = caller; here = context.Project project }

-- the action is allowed on a job that was found
abbrev pub act_on : World → Caller → List ℕ → Option ProjectJob → Result Bool Answer
act_on world caller action None = Err answer.NoExecution
act_on world caller action (Some p) =
    permitted world.policies
    (job_decision (access_in_project world p.project caller) action p.held) action
    (job_thing p.held.job)

-- the action is allowed on the job of this id
abbrev pub may_act : World → Caller → List ℕ → List ℕ → Result Bool Answer
may_act world caller action id = act_on world caller action (held_among id world.projects)
