-- The walk over the references of a job, depth first in step order, and what it is refused for.
use Rattle.std.specs.Prelude.{ℕ, zero, suc, List, [], ◌∷◌, ◌++◌, Option, Some, None, if◌then◌else◌}
use Rattle.rb_acl.specs.declared.policy.Decision.{Decision}
use Rattle.rb_acl.specs.Deciding.{is_allowed}
use Rattle.rb_job.specs.declared.job.JobAct.{JobAct}
use Rattle.rb_plan.specs.Resolved.{Path, ResolvedAct, own, referred, unresolved, ResolvedSteps, no_step, step}
use Rattle.rb_plan.specs.declared.world.HeldJob.{HeldJob}
use Rattle.rb_plan.specs.declared.refusal.RefCause.{RefCause}
use Rattle.rb_plan.specs.declared.refusal.RefCause.TheVariants.{TooMany}
use Rattle.rb_plan.specs.declared.refusal.Refusal.{Refusal}
use Rattle.rb_plan.specs.declared.refusal.Refusal.TheVariants.{BadReference, ReferenceDenied}

-- what the walk comes to: a command or a handler, with the path of its job; a reference to a job;
-- one that cannot be resolved
pub data Visit : Type 0 where
  command : Path → Visit
  reference : Path → HeldJob → Visit
  fault : Path → RefCause → Visit

abbrev pub handler_visits : Path → Option JobAct → List Visit
handler_visits path None = []
handler_visits path (Some act) = command path ∷ []

-- all that the walk comes to in a job of this path
abbrev mutual
  pub act_visits : Path → ResolvedAct → List Visit
  act_visits path (own act) = command path ∷ []
  act_visits path (referred below args held steps) = reference below held ∷ visits below steps
  act_visits path (unresolved below cause) = fault below cause ∷ []

  pub visits : Path → ResolvedSteps → List Visit
  visits path no_step = []
  visits path (step act handler keep steps) = act_visits path act
      ++ (handler_visits path handler ++ visits path steps)

abbrev pub bad : Path → RefCause → Refusal
bad path cause = BadReference path cause

-- the first reference that cannot be resolved, or the first command or handler past so many
abbrev pub first_bad : ℕ → List Visit → Option Refusal
first_bad left [] = None
first_bad zero (command path ∷ vs) = Some (bad path TooMany)
first_bad (suc left) (command path ∷ vs) = first_bad left vs
first_bad left (reference path held ∷ vs) = first_bad left vs
first_bad left (fault path cause ∷ vs) = Some (bad path cause)

-- the first referenced job that may not be run
abbrev pub first_denied : (HeldJob → Decision) → List Visit → Option Refusal
first_denied decide [] = None
first_denied decide (command path ∷ vs) = first_denied decide vs
first_denied decide (fault path cause ∷ vs) = first_denied decide vs
first_denied decide (reference path held ∷ vs) =
    if is_allowed (decide held) then first_denied decide vs
    else Some (ReferenceDenied path (decide held))

-- why the references of an asked job are refused
abbrev pub bad_reference : ResolvedSteps → Option Refusal
bad_reference steps = first_bad 1000 (visits [] steps)

abbrev pub denied_reference : (HeldJob → Decision) → ResolvedSteps → Option Refusal
denied_reference decide steps = first_denied decide (visits [] steps)
