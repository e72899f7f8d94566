use Rattle.std.proofs.Common.{◌≡◌, ◌+◌, ◌*◌, drop}
use Rattle.rb_plan.specs.Access.{job_run}
use Rattle.rb_plan.specs.References.{first_denied}
use Rattle.rb_plan.specs.Walked.{deeper, all_visits}
use Rattle.rb_plan.proofs.denying.+deny.Given as goal

abbrev pub decreases-deny_steps : goal.decreases-deny_steps
decreases-deny_steps l = l.levels * 3 + 2

abbrev pub decreases-deny_act : goal.decreases-deny_act
decreases-deny_act l = l.levels * 3 + 1

abbrev pub decreases-deny_reference : goal.decreases-deny_reference
decreases-deny_reference l = l.levels * 3

-- what is left to look at answers what the whole does
abbrev pub invariant-deny_steps-loop-step : goal.invariant-deny_steps-loop-step
invariant-deny_steps-loop-step l =
    first_denied (job_run l.access) (all_visits (deeper l.levels l.project) l.project l.path (drop l.step-index l.steps))
    ≡ first_denied (job_run l.access) (all_visits (deeper l.levels l.project) l.project l.path l.steps)
