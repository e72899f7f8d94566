-- What holds of jobs that a reader gives, as far as it counts when they are read again.
use Rattle.std.specs.Prelude.{◌≡◌, ℕ, Bool, true, false, nat_le, List, [], ◌∷◌, length, Option, Some, None}
use Rattle.std.specs.List.{list_any, AllByRecursion as Each}
use Rattle.std.specs.Str.{IsUtf8}
use Rattle.rb_causes.specs.Texts.{is_empty, is_trimmed_off}
use Rattle.rb_causes.specs.declared.items.Prop.{Prop}
use Rattle.rb_cron.specs.Due.{Source}
use Rattle.rb_cron.specs.declared.fields.Fields.{Fields}
use Rattle.rb_cron.specs.ZoneRules.{is_utc}
use Rattle.rb_job.specs.Sound.{is_between}
use Rattle.rb_job.specs.TextForms.{most_bytes}
use Rattle.rb_job.specs.declared.job.Job.{Job}
use Rattle.rb_job.specs.declared.job.JobStep.{JobStep}
use Rattle.rb_job.specs.declared.job.JobAct.{JobAct}
use Rattle.rb_job.specs.declared.job.JobAct.TheVariants.{Exec, Script, Refer}
use Rattle.rb_job.specs.declared.job.Orchestrator.{Orchestrator}
use Rattle.rb_job.specs.declared.job.Orchestrator.TheVariants.{Plain, Subset, RankTiered, MaxPercentage}
use Rattle.rb_export.specs.Words.{pairs_text}

-- a pair whose name is not empty; both are UTF-8
pub record IsReadPair (pair : Prop) : Type 0 where
  pub named : is_empty pair.key ≡ false
  pub key : IsUtf8 pair.key
  pub value : IsUtf8 pair.text

-- pairs whose text is read, since it is not too long
pub record ArePairs (pairs : List Prop) : Type 0 where
  pub each : Each IsReadPair pairs
  pub short : nat_le most_bytes (length (pairs_text pairs)) ≡ false

abbrev pub IsReadAct : JobAct → Type 0
IsReadAct (Exec words) = Each IsUtf8 words
IsReadAct (Script script args) = Each IsUtf8 args
IsReadAct (Refer group name pairs) = ArePairs pairs

-- a handler refers to no job, and where there is none nothing is kept
abbrev pub IsReadHandler : Option JobAct → Bool → Type 0
IsReadHandler None keep = keep ≡ false
IsReadHandler (Some (Exec words)) keep = Each IsUtf8 words
IsReadHandler (Some (Script script args)) keep = Each IsUtf8 args
IsReadHandler (Some (Refer group name pairs)) keep = ⊥

pub record IsReadStep (step : JobStep) : Type 0 where
  pub act : IsReadAct step.act
  pub handler : IsReadHandler step.handler step.keep_on_success

-- a number of a range
abbrev pub IsNumber : ℕ → ℕ → ℕ → Type 0
IsNumber least most n = is_between least most n ≡ true

abbrev pub IsReadOrchestrator : Orchestrator → Type 0
IsReadOrchestrator Plain = Unit {0}
IsReadOrchestrator (Subset count) = IsNumber 1 1000000 count
IsReadOrchestrator RankTiered = Unit {0}
IsReadOrchestrator (MaxPercentage percent) = IsNumber 1 100 percent

-- a text that is not empty and has no blank
pub record IsWord (text : List ℕ) : Type 0 where
  pub some : is_empty text ≡ false
  pub bare : list_any is_trimmed_off text ≡ false

-- the texts of fields, in the order of a crontab
abbrev pub field_texts : Fields → List (List ℕ)
field_texts f =
    f.seconds ∷ f.minute ∷ f.hour ∷ f.day ∷ f.month ∷ f.weekday ∷ f.year ∷ []

-- each field is a word, and the zone is UTC
pub record IsReadSource (source : Source) : Type 0 where
  pub fields : Each IsWord (field_texts source.fields)
  pub rule : is_utc source.rule ≡ true

abbrev pub IsReadSchedule : Option Source → Type 0
IsReadSchedule None = Unit {0}
IsReadSchedule (Some source) = IsReadSource source

pub record IsReadJob (job : Job) : Type 0 where
  pub steps : Each IsReadStep job.steps
  pub threads : IsNumber 1 1000 job.threads
  pub orchestrator : IsReadOrchestrator job.orchestrator
  pub schedule : IsReadSchedule job.schedule
