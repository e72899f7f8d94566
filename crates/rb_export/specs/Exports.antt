-- The texts of policies and of jobs, and why they are refused.
use Rattle.std.specs.Prelude.{◌≡◌, ◌<◌, ℕ, ◌+◌, Bool, false, not, List, [], ◌∷◌, length, map, Option, Some, None, if◌then◌else◌}
use Rattle.rb_cron.specs.Due.{Source}
use Rattle.rb_cron.specs.ZoneRules.{is_utc}
use Rattle.rb_acl.specs.declared.policy.Policy.{Policy}
use Rattle.rb_job.specs.declared.job.Job.{Job}
use Rattle.rb_canon.specs.Layout.{canon_docs_of, most_bytes}
use Rattle.rb_export.specs.Policies.{policy_value}
use Rattle.rb_export.specs.Jobs.{jobs_values}
use Rattle.rb_export.specs.declared.export_err.ExportErr.{ExportErr}
use Rattle.rb_export.specs.declared.export_err.ExportErr.TheVariants.{OtherZone, TooLarge, NoMemory}

-- a document for each policy
abbrev pub policies_text : List Policy → List ℕ
policies_text policies = canon_docs_of (map policy_value policies)

-- a document for each 1,000 jobs
abbrev pub jobs_text : List Job → List ℕ
jobs_text jobs = canon_docs_of (jobs_values jobs)

-- the schedule is in another zone than UTC
abbrev pub is_in_other : Option Source → Bool
is_in_other None = false
is_in_other (Some source) = not (is_utc source.rule)

-- the number of the first job whose schedule is, where the first job has this number
abbrev pub first_other : ℕ → List Job → Option ℕ
first_other number [] = None
first_other number (job ∷ jobs) =
    if is_in_other job.schedule then Some number else first_other (number + 1) jobs

-- the text would be too large, or memory was wanting
abbrev pub IsTextRefusal : List ℕ → ExportErr → Type 0
IsTextRefusal text (OtherZone number) = ⊥
IsTextRefusal text TooLarge = most_bytes < length text
IsTextRefusal text NoMemory = Unit {0}

-- a job is in another zone; or none is, and the text would be too large; or memory was wanting
abbrev pub IsJobsRefusal : List Job → ExportErr → Type 0
IsJobsRefusal jobs (OtherZone number) = first_other 1 jobs ≡ Some number
IsJobsRefusal jobs TooLarge =
    (first_other 1 jobs ≡ None) × (most_bytes < length (jobs_text jobs))
IsJobsRefusal jobs NoMemory = Unit {0}
