-- What holds of each job of a document, whatever the document is.
use Rattle.std.specs.Prelude.{◌≡◌, Bool, false, Option, Some, None}
use Rattle.std.specs.List.{AllByRecursion as Each}
use Rattle.rb_causes.specs.Texts.{is_empty}
use Rattle.rb_causes.specs.declared.items.Prop.{Prop}
use Rattle.rb_job.specs.declared.job.Job.{Job}
use Rattle.rb_job.specs.declared.job.JobStep.{JobStep}
use Rattle.rb_job.specs.declared.job.JobAct.{JobAct}
use Rattle.rb_job.specs.declared.job.JobAct.TheVariants.{Exec, Script, Refer}
use Rattle.rb_export_laws.specs.ReadJobs.{IsNumber, IsReadOrchestrator}

abbrev pub IsNamed : Prop → Type 0
IsNamed pair = is_empty pair.key ≡ false

-- each option that a reference gives has a name
abbrev pub IsShapedAct : JobAct → Type 0
IsShapedAct (Exec words) = Unit {0}
IsShapedAct (Script script args) = Unit {0}
IsShapedAct (Refer group name pairs) = Each IsNamed pairs

-- a handler refers to no job, and where there is none nothing is kept
abbrev pub IsShapedHandler : Option JobAct → Bool → Type 0
IsShapedHandler None keep = keep ≡ false
IsShapedHandler (Some (Exec words)) keep = Unit {0}
IsShapedHandler (Some (Script script args)) keep = Unit {0}
IsShapedHandler (Some (Refer group name pairs)) keep = ⊥

pub record IsShapedStep (step : JobStep) : Type 0 where
  pub act : IsShapedAct step.act
  pub handler : IsShapedHandler step.handler step.keep_on_success

pub record IsShapedJob (job : Job) : Type 0 where
  pub steps : Each IsShapedStep job.steps
  pub threads : IsNumber 1 1000 job.threads
  pub orchestrator : IsReadOrchestrator job.orchestrator
