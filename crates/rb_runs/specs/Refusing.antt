-- Why a run is refused, in the world on which the verdict is given.
use Rattle.std.specs.Prelude.{ℕ, List, ◌++◌, Option, Some, None, option_map, codes}
use Rattle.std.specs.Option.{option_and_then}
use Rattle.rb_acl.specs.Naming.{IsNamed}
use Rattle.rb_acl.specs.declared.policy.Caller.{Caller}
use Rattle.rb_acl.specs.declared.policy.Context.TheVariants.{Project}
use Rattle.rb_acl.specs.declared.policy.Decision.{Decision}
use Rattle.rb_acl.specs.declared.policy.Policies.{Policies}
use Rattle.rb_plan.specs.Access.{Access, run_action}
use Rattle.rb_plan.specs.Worlds.{Found, job_found}
use Rattle.rb_plan.specs.declared.refusal.Refusal.{Refusal}
use Rattle.rb_plan.specs.declared.refusal.Refusal.TheVariants.{NoJob, JobDenied, BadReference, ReferenceDenied, Disabled, AlreadyRunning, BadOption, NoNodeSelected, NoNodeAllowed, TooLarge}
use Rattle.rb_plan.specs.declared.world.World.{World}
use Rattle.rb_log.specs.Moves.{reason_of, job_thing, node_thing}
use Rattle.rb_log.specs.Runs.{last_of, node_named}
use Rattle.rb_log.specs.declared.answer.Reason.{Reason}

-- who asks, in the project of the job
abbrev pub access_to : World → Caller → Found → Access
access_to world caller found = record {
  policies = world.policies;
  caller = caller;
  here = Project found.project.name;
}

-- the decision on running a job of this id
abbrev pub job_reason : World → List ℕ → Decision → Option Reason
job_reason world id decision =
    option_map
    (λ found. reason_of world.policies decision (codes "run") (job_thing found.held.job))
    (job_found world id)

-- that on running a referenced job
abbrev pub reference_reason : World → List (List ℕ) → Decision → Reason
reference_reason world path decision =
    reason_of world.policies decision (codes "run") (codes "job " ++ last_of path)

-- that on reading or running a node of a job's project
abbrev pub node_reason : World → Caller → List ℕ → Decision → Found → Option Reason
node_reason world caller name decision found =
    option_map
    (λ node. reason_of world.policies decision (run_action (access_to world caller found) node)
    (node_thing node.name)) (node_named name found)

-- the reason of a refusal that holds a decision
abbrev pub refusal_reason : World → Caller → List ℕ → Refusal → Option Reason
refusal_reason world caller id (JobDenied decision) = job_reason world id decision
refusal_reason world caller id (ReferenceDenied path decision) =
    Some (reference_reason world path decision)
refusal_reason world caller id (NoNodeAllowed name decision) =
    option_and_then (node_reason world caller name decision) (job_found world id)
refusal_reason world caller id NoJob = None
refusal_reason world caller id (BadReference path cause) = None
refusal_reason world caller id Disabled = None
refusal_reason world caller id (AlreadyRunning execution) = None
refusal_reason world caller id (BadOption path fault) = None
refusal_reason world caller id NoNodeSelected = None
refusal_reason world caller id (TooLarge leaves) = None

-- a decision that it holds names a rule of the policies
abbrev pub HasNamedDecision : Policies → Refusal → Type 0
HasNamedDecision policies (JobDenied decision) = IsNamed policies decision
HasNamedDecision policies (ReferenceDenied path decision) = IsNamed policies decision
HasNamedDecision policies (NoNodeAllowed name decision) = IsNamed policies decision
HasNamedDecision policies NoJob = Unit {0}
HasNamedDecision policies (BadReference path cause) = Unit {0}
HasNamedDecision policies Disabled = Unit {0}
HasNamedDecision policies (AlreadyRunning execution) = Unit {0}
HasNamedDecision policies (BadOption path fault) = Unit {0}
HasNamedDecision policies NoNodeSelected = Unit {0}
HasNamedDecision policies (TooLarge leaves) = Unit {0}
