-- The walk as the code goes: how many commands are left.
use Rattle.std.specs.Prelude.{◌≡◌, ℕ, zero, suc, List, [], ◌∷◌, ◌++◌, Option, Some, None, Result, Ok, Err}
use Rattle.rb_job.specs.declared.job.JobStep.{JobStep}
use Rattle.rb_plan.specs.Resolved.{Path, Resolver, resolved, resolved_steps, resolved_act, resolved_reference}
use Rattle.rb_plan.specs.References.{Visit, command, reference, fault, bad, visits, act_visits, handler_visits}
use Rattle.rb_causes.specs.declared.items.Prop.{Prop}
use Rattle.rb_plan.specs.declared.world.Project.{Project}
use Rattle.rb_plan.specs.declared.world.HeldJob.{HeldJob}
use Rattle.rb_plan.specs.declared.refusal.RefCause.TheVariants.{TooMany}
use Rattle.rb_plan.specs.declared.refusal.Refusal.{Refusal}
use Rattle.rb_plan.specs.declared.refusal.VerdictErr.{VerdictErr}
use Rattle.rb_plan.specs.declared.refusal.VerdictErr.TheVariants.{Refused, NoMemory}

-- how many commands may come behind these visits, or the first visit that is refused
abbrev pub walked : ℕ → List Visit → Result ℕ Refusal
walked left [] = Ok left
walked zero (command path ∷ vs) = Err (bad path TooMany)
walked (suc left) (command path ∷ vs) = walked left vs
walked left (reference path held ∷ vs) = walked left vs
walked left (fault path cause ∷ vs) = Err (bad path cause)

-- an answer tells that, unless memory was wanting
abbrev pub Walks : Result ℕ Refusal → Result ℕ VerdictErr → Type 0
Walks told (Ok left) = told ≡ Ok left
Walks told (Err (Refused refusal)) = told ≡ Err refusal
Walks told (Err NoMemory) = Unit {0}

-- how steps below are resolved, where there are so many levels
abbrev pub deeper : ℕ → Project → Option Resolver
deeper zero project = None
deeper (suc levels) project = Some (resolved levels project)

-- what the walk comes to in a step
abbrev pub step_visits : Option Resolver → Project → Path → JobStep → List Visit
step_visits below project path s = act_visits path (resolved_act below project path s.act)
    ++ handler_visits path s.handler

-- and in steps
abbrev pub all_visits : Option Resolver → Project → Path → List JobStep → List Visit
all_visits below project path steps = visits path (resolved_steps below project path steps)

-- an answer to a reference to a job, whatever its arguments are
abbrev pub WalksReference : Option Resolver → Path → Option HeldJob → ℕ → Result ℕ VerdictErr
    → Type 0
WalksReference below path held left result = (args : List Prop)
    → Walks (walked left (act_visits path (resolved_reference below path args held))) result

-- a refusal is that of a rule, unless memory was wanting
abbrev pub RefusedBy : Option Refusal → VerdictErr → Type 0
RefusedBy rule (Refused refusal) = rule ≡ Some refusal
RefusedBy rule NoMemory = Unit {0}

-- an answer tells whether a rule refuses
abbrev pub TellsRefusal : {A : Type 0} → Option Refusal → Result A VerdictErr → Type 0
TellsRefusal rule (Ok given) = rule ≡ None
TellsRefusal rule (Err e) = RefusedBy rule e

-- and a rule about what a reference to a job comes to, whatever its arguments are
abbrev pub RefusesReference :
    (List Visit → Option Refusal) → Option Resolver → Path → Option HeldJob
    → Result (Unit {0}) VerdictErr → Type 0
RefusesReference rule below path held result =
    (args : List Prop) →
    TellsRefusal (rule (act_visits path (resolved_reference below path args held))) result
