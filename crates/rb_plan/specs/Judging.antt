-- What the parts of a verdict give, one after the other.
use Rattle.std.specs.Prelude.{◌≡◌, ℕ, List, [], ◌∷◌, length, map, Option, Result, Ok, Err}
use Rattle.rb_causes.specs.Causes.{unless}
use Rattle.rb_acl.specs.declared.policy.Caller.{Caller}
use Rattle.rb_acl.specs.declared.policy.Decision.{Decision}
use Rattle.rb_causes.specs.declared.items.Prop.{Prop}
use Rattle.rb_job.specs.declared.job.Job.{Job}
use Rattle.rb_marks.specs.View.{step_tree}
use Rattle.rb_node.specs.declared.node.Node.{Node}
use Rattle.rb_option.specs.Settled.{settled_values}
use Rattle.rb_plan.specs.Acceptance.{Acceptance, acceptance}
use Rattle.rb_plan.specs.Access.{Access, job_run}
use Rattle.rb_plan.specs.Inlined.{Site, commands, numbered}
use Rattle.rb_plan.specs.References.{bad_reference, denied_reference}
use Rattle.rb_plan.specs.Refusals.{already_running, denied_job, disabled, none_allowed, none_selected}
use Rattle.rb_plan.specs.Resolved.{resolved_job}
use Rattle.rb_plan.specs.Targets.{runnable, targets}
use Rattle.rb_plan.specs.Verdict.{Asked, accepted_of, first_refusal, job_outline, rules}
use Rattle.rb_plan.specs.Worlds.{running_of}
use Rattle.rb_plan.specs.declared.accepted.Accepted.{Accepted}
use Rattle.rb_plan.specs.declared.judging.InlinedJob.{InlinedJob}
use Rattle.rb_plan.specs.declared.refusal.Refusal.{Refusal}
use Rattle.rb_plan.specs.declared.refusal.VerdictErr.{VerdictErr}
use Rattle.rb_plan.specs.declared.refusal.VerdictErr.TheVariants.{Refused, NoMemory}
use Rattle.rb_plan.specs.declared.sorting.SortedNodes.{SortedNodes}
use Rattle.rb_plan.specs.declared.world.HeldJob.{HeldJob}
use Rattle.rb_plan.specs.declared.world.Project.{Project}
use Rattle.rb_plan.specs.declared.world.RunAsk.{RunAsk}
use Rattle.rb_plan.specs.declared.world.World.{World}

-- the rules on a job and on those that it refers to
abbrev pub job_rules : World → Access → Project → HeldJob → List (Option Refusal)
job_rules world access project held =
    denied_job (job_run access held)
    ∷ bad_reference (resolved_job project held)
    ∷ denied_reference (job_run access) (resolved_job project held)
    ∷ disabled held.job
    ∷ already_running held.job (running_of world held.id)
    ∷ []

-- the rules on the nodes that are selected
abbrev pub node_rules : Job → (Node → Decision) → List Node → List (Option Refusal)
node_rules job decide chosen =
    none_selected job chosen ∷ none_allowed decide chosen (runnable decide chosen) ∷ []

-- the asked job with its settled values
abbrev pub asked_site : Project → Caller → HeldJob → List Prop → Site
asked_site project caller held given = record {
  held = held;
  values = settled_values held.job.options given;
  project = project.name;
  user = caller.user;
}

-- the steps of a job as those of the plan, and its commands
pub record IsInlined (project : Project) (held : HeldJob) (site : Site) (i : InlinedJob)
    : Type 0 where
  pub steps : map step_tree i.steps.items ≡ numbered 0 (resolved_job project held)
  pub commands : i.commands.items ≡ commands site (resolved_job project held)

-- a run of this job with these values, steps, commands and nodes
abbrev pub assembled :
    Project → HeldJob → ℕ → List Prop → InlinedJob → SortedNodes → Acceptance
assembled project held draw values inlined sorted = record {
  project = project.name;
  job = held.id;
  plan = job_outline held.job (targets held.job draw sorted.runnable.items)
      (map step_tree inlined.steps.items) (length inlined.commands.items);
  nodes = targets held.job draw sorted.runnable.items;
  commands = inlined.commands.items;
  values = values;
  dropped = sorted.dropped;
}

-- who asks for this job of this project
abbrev pub asked_for : World → Caller → RunAsk → ℕ → Project → HeldJob → Asked
asked_for world caller ask draw project held = record {
  world = world;
  caller = caller;
  ask = ask;
  draw = draw;
  found = record { project = project; held = held };
}

-- an answer tells the verdict on a job that is held, unless memory was wanting
abbrev pub Judges : Asked → Result Accepted VerdictErr → Type 0
Judges a (Ok accepted) =
    unless (first_refusal (rules a)) (accepted_of a) ≡ Ok (acceptance accepted)
Judges a (Err (Refused refusal)) =
    unless (first_refusal (rules a)) (accepted_of a) ≡ Err refusal
Judges a (Err NoMemory) = Unit {0}
