-- The verdict on a run that is asked for.
use Rattle.std.specs.Prelude.{◌≡◌, ℕ, List, [], ◌∷◌, length, Option, Some, None, Result, Ok, Err}
use Rattle.std.specs.Option.{option_or}
use Rattle.rb_causes.specs.Causes.{unless}
use Rattle.rb_acl.specs.declared.policy.Caller.{Caller}
use Rattle.rb_acl.specs.declared.policy.Context.TheVariants.{Project}
use Rattle.rb_acl.specs.declared.policy.Decision.{Decision}
use Rattle.rb_option.specs.Settled.{settled_values}
use Rattle.rb_job.specs.declared.job.Job.{Job}
use Rattle.rb_marks.specs.Units.{Outline}
use Rattle.rb_marks.specs.View.{Branch}
use Rattle.rb_node.specs.declared.node.Node.{Node}
use Rattle.rb_plan.specs.Acceptance.{Acceptance, acceptance}
use Rattle.rb_plan.specs.Access.{Access, job_run, node_run}
use Rattle.rb_plan.specs.Inlined.{Site, refused_option, option_in_steps, commands, slots, numbered}
use Rattle.rb_plan.specs.Resolved.{ResolvedSteps, resolved_job}
use Rattle.rb_plan.specs.References.{bad_reference, denied_reference}
use Rattle.rb_plan.specs.Refusals.{denied_job, disabled, already_running, none_selected, none_allowed, too_large}
use Rattle.rb_plan.specs.Targets.{chosen_nodes, runnable, dropped, targets, target_tiers, target_bound}
use Rattle.rb_plan.specs.Worlds.{Found, job_found, running_of}
use Rattle.rb_plan.specs.declared.world.World.{World}
use Rattle.rb_plan.specs.declared.world.HeldJob.{HeldJob}
use Rattle.rb_plan.specs.declared.world.RunAsk.{RunAsk}
use Rattle.rb_plan.specs.declared.accepted.Accepted.{Accepted}
use Rattle.rb_plan.specs.declared.accepted.Dropped.{Dropped}
use Rattle.rb_plan.specs.declared.refusal.Refusal.{Refusal}
use Rattle.rb_plan.specs.declared.refusal.Refusal.TheVariants.{NoJob}
use Rattle.rb_plan.specs.declared.refusal.VerdictErr.{VerdictErr}
use Rattle.rb_plan.specs.declared.refusal.VerdictErr.TheVariants.{Refused, NoMemory}

-- who asks for which job, with what is given, in which world
pub record Asked : Type 0 where
  pub world : World
  pub caller : Caller
  pub ask : RunAsk
  pub draw : ℕ
  pub found : Found

-- who asks, in the project of the job and by the world's policies
abbrev pub access_of : Asked → Access
access_of a =
    record { policies = a.world.policies; caller = a.caller; here = Project a.found.project.name }

-- whether the caller may run a job of the project
abbrev pub may_run : Asked → HeldJob → Decision
may_run a held = job_run (access_of a) held

-- and a node
abbrev pub may_run_on : Asked → Node → Decision
may_run_on a node = node_run (access_of a) node

-- the job's steps with all references resolved
abbrev pub steps_of : Asked → ResolvedSteps
steps_of a = resolved_job a.found.project a.found.held

-- the asked job with its settled values
abbrev pub site_of : Asked → Site
site_of a = record {
  held = a.found.held;
  values = settled_values a.found.held.job.options a.ask.given;
  project = a.found.project.name;
  user = a.caller.user;
}

-- the selected nodes, and those of them that may be run on
abbrev pub chosen_of : Asked → List Node
chosen_of a = chosen_nodes a.ask a.found.held.job a.found.project.inventory.nodes

abbrev pub runnable_of : Asked → List Node
runnable_of a = runnable (may_run_on a) (chosen_of a)

-- those that may not be run on, each with its decision
abbrev pub dropped_of : Asked → List Dropped
dropped_of a = dropped (may_run_on a) (chosen_of a)

-- the nodes that are run on
abbrev pub targets_of : Asked → List Node
targets_of a = targets a.found.held.job a.draw (runnable_of a)

-- the rules of refusal in their order
abbrev pub rules : Asked → List (Option Refusal)
rules a =
    denied_job (may_run a a.found.held)
    ∷ bad_reference (steps_of a)
    ∷ denied_reference (may_run a) (steps_of a)
    ∷ disabled a.found.held.job
    ∷ already_running a.found.held.job (running_of a.world a.found.held.id)
    ∷ refused_option [] a.found.held.job.options a.ask.given
    ∷ option_in_steps (site_of a) (steps_of a)
    ∷ none_selected a.found.held.job (chosen_of a)
    ∷ none_allowed (may_run_on a) (chosen_of a) (runnable_of a)
    ∷ too_large (length (targets_of a)) (slots (steps_of a))
    ∷ []

-- what the first of the rules that refuses says
abbrev pub first_refusal : List (Option Refusal) → Option Refusal
first_refusal [] = None
first_refusal (rule ∷ rules) = option_or rule (first_refusal rules)

-- the plan of a job with these nodes, steps and slots
abbrev pub job_outline : Job → List Node → List Branch → ℕ → Outline
job_outline job nodes steps count = record {
  strategy = job.strategy;
  tiers = target_tiers job.orchestrator job.rank_by nodes;
  keepgoing = job.keepgoing;
  steps = steps;
  slots = count;
  keep_nodes = job.keep_nodes;
  bound = target_bound job nodes;
}

-- the plan of a run that is accepted
abbrev pub plan_of : Asked → Outline
plan_of a =
    job_outline a.found.held.job (targets_of a) (numbered 0 (steps_of a)) (slots (steps_of a))

abbrev pub accepted_of : Asked → Acceptance
accepted_of a = record {
  project = a.found.project.name;
  job = a.found.held.id;
  plan = plan_of a;
  nodes = targets_of a;
  commands = commands (site_of a) (steps_of a);
  values = (site_of a).values;
  dropped = dropped_of a;
}

-- the verdict on a job that is held
abbrev pub verdict_on : World → Caller → RunAsk → ℕ → Option Found → Result Acceptance Refusal
verdict_on world caller ask draw None = Err NoJob
verdict_on world caller ask draw (Some found) =
    let a : Asked =
    record { world = world; caller = caller; ask = ask; draw = draw; found = found } in
    unless (first_refusal (rules a)) (accepted_of a)

-- the first refusal whose rule holds, else the run that is accepted
abbrev pub verdict_of : World → Caller → RunAsk → ℕ → Result Acceptance Refusal
verdict_of world caller ask draw = verdict_on world caller ask draw (job_found world ask.job)

-- an answer tells the verdict, unless memory was wanting
abbrev pub Verdicts : World → Caller → RunAsk → ℕ → Result Accepted VerdictErr → Type 0
Verdicts world caller ask draw (Ok accepted) =
    verdict_of world caller ask draw ≡ Ok (acceptance accepted)
Verdicts world caller ask draw (Err (Refused refusal)) =
    verdict_of world caller ask draw ≡ Err refusal
Verdicts world caller ask draw (Err NoMemory) = Unit {0}
