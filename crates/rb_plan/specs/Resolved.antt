-- A job's steps with the references in them resolved.
use Rattle.std.specs.Prelude.{ℕ, zero, suc, Bool, List, [], ◌∷◌, ◌++◌, Option, Some, None}
use Rattle.rb_causes.specs.Signs.{slash}
use Rattle.rb_causes.specs.declared.items.Prop.{Prop}
use Rattle.rb_job.specs.declared.job.JobStep.{JobStep}
use Rattle.rb_job.specs.declared.job.JobAct.{JobAct}
use Rattle.rb_job.specs.declared.job.JobAct.TheVariants.{Exec, Script, Refer}
use Rattle.rb_plan.specs.Worlds.{referred_job}
use Rattle.rb_plan.specs.declared.world.Project.{Project}
use Rattle.rb_plan.specs.declared.world.HeldJob.{HeldJob}
use Rattle.rb_plan.specs.declared.refusal.RefCause.{RefCause}
use Rattle.rb_plan.specs.declared.refusal.RefCause.TheVariants.{NotFound, TooDeep}

-- GROUP/NAME of each reference from the asked job's own step down
abbrev pub Path : Type 0
Path = List (List ℕ)

-- an act: a command or a script; or a reference with its path, its arguments, the job and that
-- job's steps; or one that cannot be resolved
mutual
  pub data ResolvedAct : Type 0 where
    own : JobAct → ResolvedAct
    referred : Path → List Prop → HeldJob → ResolvedSteps → ResolvedAct
    unresolved : Path → RefCause → ResolvedAct

  -- the steps of a job: an act, its handler, and whether it is kept on success
  pub data ResolvedSteps : Type 0 where
    no_step : ResolvedSteps
    step : ResolvedAct → Option JobAct → Bool → ResolvedSteps → ResolvedSteps

-- how the steps of a job further down are resolved
abbrev pub Resolver : Type 0
Resolver = Path → List JobStep → ResolvedSteps

abbrev pub label : List ℕ → List ℕ → List ℕ
label group name = group ++ slash ∷ name

-- a reference to a job that is not held, or that stands too deep to be resolved, or to one whose
-- steps are resolved in their turn
abbrev pub resolved_reference : Option Resolver → Path → List Prop → Option HeldJob → ResolvedAct
resolved_reference below path args None = unresolved path NotFound
resolved_reference None path args (Some held) = unresolved path TooDeep
resolved_reference (Some below) path args (Some held) =
    referred path args held (below path held.job.steps)

abbrev pub resolved_act : Option Resolver → Project → Path → JobAct → ResolvedAct
resolved_act below project path (Exec words) = own (Exec words)
resolved_act below project path (Script text args) = own (Script text args)
resolved_act below project path (Refer group name args) =
    resolved_reference below (path ++ label group name ∷ []) args (referred_job project group name)

abbrev pub resolved_steps : Option Resolver → Project → Path → List JobStep → ResolvedSteps
resolved_steps below project path [] = no_step
resolved_steps below project path (s ∷ ss) =
    step (resolved_act below project path s.act) s.handler s.keep_on_success
    (resolved_steps below project path ss)

-- steps below which references go so many levels down
abbrev pub resolved : ℕ → Project → Resolver
resolved zero project path steps = resolved_steps None project path steps
resolved (suc levels) project path steps =
    resolved_steps (Some (resolved levels project)) project path steps

-- the steps of an asked job: there are eight levels below its own
abbrev pub resolved_job : Project → HeldJob → ResolvedSteps
resolved_job project held = resolved 8 project [] held.job.steps
