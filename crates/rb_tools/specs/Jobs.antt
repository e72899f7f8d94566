-- What `check jobs` prints of a file's bytes, and why it is refused.
use Rattle.std.specs.Prelude.{◌≡◌, ℕ, List, [], ◌∷◌, length, codes, decimal, Result, Ok, Err}
use Rattle.rb_command.specs.Lines.{line_of}
use Rattle.rb_yaml.specs.Documents.{docs_of}
use Rattle.rb_yaml.specs.Tree.{YamlTree}
use Rattle.rb_job.specs.Jobs.{AreJobsOf, IsJobsFault}
use Rattle.rb_job.specs.declared.fault.JobErr.TheVariants.{Fault}
use Rattle.rb_job.specs.declared.job.Job.{Job}
use Rattle.rb_tools.specs.declared.refusal.ToolRefusal.{ToolRefusal}
use Rattle.rb_tools.specs.declared.refusal.ToolRefusal.TheVariants as refusals

-- the file holds documents of these jobs, in which no zone but UTC is named
pub record HoldsJobs (bytes : List ℕ) (jobs : List Job) : Type 0 where
  pub docs : List YamlTree
  pub given : docs_of bytes ≡ Ok docs
  pub are : AreJobsOf [] docs jobs

-- Why nothing is printed of a file's bytes: they break a rule of YAML, or they give documents and a
-- job in them is faulty.
abbrev pub RefusesJobs : List ℕ → ToolRefusal → Type 0
RefusesJobs bytes refusals.NoMemory = Unit {0}
RefusesJobs bytes (refusals.Yaml fault) = docs_of bytes ≡ Err fault
RefusesJobs bytes (refusals.Job fault) =
    (docs : List YamlTree) × (docs_of bytes ≡ Ok docs) × IsJobsFault [] docs (Fault fault)
RefusesJobs bytes (refusals.Node fault) = ⊥
RefusesJobs bytes (refusals.Policy fault) = ⊥
RefusesJobs bytes (refusals.Filter error) = ⊥
RefusesJobs bytes (refusals.Crontab error) = ⊥
RefusesJobs bytes refusals.Zone = ⊥

-- why documents are refused: a job in them is faulty
abbrev pub IsRefusalOfJobs : List YamlTree → ToolRefusal → Type 0
IsRefusalOfJobs docs refusals.NoMemory = Unit {0}
IsRefusalOfJobs docs (refusals.Job fault) = IsJobsFault [] docs (Fault fault)
IsRefusalOfJobs docs (refusals.Yaml fault) = ⊥
IsRefusalOfJobs docs (refusals.Node fault) = ⊥
IsRefusalOfJobs docs (refusals.Policy fault) = ⊥
IsRefusalOfJobs docs (refusals.Filter error) = ⊥
IsRefusalOfJobs docs (refusals.Crontab error) = ⊥
IsRefusalOfJobs docs refusals.Zone = ⊥

-- how many jobs there are
abbrev pub jobs_text : List Job → List ℕ
jobs_text jobs = line_of (decimal (length jobs) ∷ codes " jobs" ∷ [])

-- What is read of a file's bytes that are to hold jobs: how many they are, or why there are none.
abbrev pub ReadsJobs : List ℕ → Result (List ℕ) ToolRefusal → Type 0
ReadsJobs bytes (Ok text) = (jobs : List Job) × HoldsJobs bytes jobs × (text ≡ jobs_text jobs)
ReadsJobs bytes (Err refusal) = RefusesJobs bytes refusal
