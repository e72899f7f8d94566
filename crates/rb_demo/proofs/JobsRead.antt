-- The jobs' text is written out, so that its reading computes, but for whether the filter is read.
use Rattle.std.proofs.Common.{◌≡◌, ℕ, List, [], ◌∷◌, ◌++◌, map, inl, inr, codes, Ok, Err, Result, refl, sym, ap, subst, ◌∙◌}
use Rattle.std.specs.List.{AllByRecursion as Each}
use Rattle.rb_yaml.specs.Tree.{YamlTree}
use Rattle.rb_yaml.specs.Documents.{docs_of}
use Rattle.rb_cron.specs.declared.zone.NamedZone.{NamedZone}
use Rattle.rb_job.specs.Jobs.{listing_doubts, listed_job, next_job_number, AreFaultless, IsFirstJobFault}
use Rattle.rb_job.specs.Listings.{ListedJob, listings_of}
use Rattle.rb_job.specs.TextForms.{Doubt, filter}
use Rattle.rb_job.specs.Telling.{AllPass, IsFirstDoubt}
use Rattle.rb_job.specs.declared.fault.JobFault.{JobFault}
use Rattle.rb_job.specs.declared.fault.JobKind.{JobKind}
use Rattle.rb_job.specs.declared.job.Job.{Job}
use Rattle.rb_log.specs.Readings.{MayReadJobs}
use Rattle.rb_log.specs.World.{read_or}
use Rattle.rb_demo.specs.Texts.{demo_jobs_text}
use Rattle.rb_demo.specs.Read.{demo_jobs}
use Rattle.rb_demo.specs.Laws.{JobsAreRead}
use Rattle.rb_demo.proofs.Computing.{computing}
use Rattle.rb_demo.proofs.FilterRead.{filter_read, filter_not_refused}

abbrev pub jobs_docs : List YamlTree
jobs_docs = read_or [] (docs_of demo_jobs_text)

jobs_text_read : docs_of demo_jobs_text ≡ Ok jobs_docs
unfolding computing
jobs_text_read = refl

pub jobs_are : (zones : List NamedZone) → map (listed_job zones) (listings_of jobs_docs) ≡ demo_jobs
unfolding computing
jobs_are zones = refl

-- what may be wrong with each of what is listed behind these jobs
abbrev doubts_from : List NamedZone → List Job → List ListedJob → List (List Doubt)
doubts_from zones before [] = []
doubts_from zones before (l ∷ ls) =
    listing_doubts zones before l ∷ doubts_from zones (before ++ listed_job zones l ∷ []) ls

-- the one doubt about each job is whether its filter is read
abbrev all_nodes : Doubt
all_nodes = (codes "filter", filter (codes ".*"))

IsSoleDoubt : List Doubt → Type 0
IsSoleDoubt doubts = doubts ≡ all_nodes ∷ []

jobs_doubted : (zones : List NamedZone) → Each IsSoleDoubt (doubts_from zones [] (listings_of jobs_docs))
unfolding computing IsSoleDoubt
jobs_doubted zones = (refl, (refl, (refl, tt)))

-- ---- so the jobs are read, and never refused

sole_passes : (doubts : List Doubt) → IsSoleDoubt doubts → AllPass doubts
unfolding IsSoleDoubt
sole_passes doubts h = subst AllPass (sym h) (filter_read, tt)

sole_not_first : (doubts : List Doubt) (key : List ℕ) (told : JobKind) → IsSoleDoubt doubts → IsFirstDoubt doubts key told → ⊥
unfolding IsSoleDoubt
sole_not_first doubts key told h f = not_first (subst (λ ds. IsFirstDoubt ds key told) h f)
  where
    not_first : IsFirstDoubt (all_nodes ∷ []) key told → ⊥
    not_first (inl here) = filter_not_refused told here.1
    not_first (inr behind) = behind.1

module _ (zones : List NamedZone) where
  are_faultless : (before : List Job) (ls : List ListedJob) → Each IsSoleDoubt (doubts_from zones before ls)
      → AreFaultless zones before ls
  are_faultless before [] h = tt
  are_faultless before (l ∷ ls) h =
      (sole_passes (listing_doubts zones before l) h.0, are_faultless (before ++ listed_job zones l ∷ []) ls h.1)

  no_job_fault : (number : ℕ) (before : List Job) (ls : List ListedJob) (fault : JobFault)
      → Each IsSoleDoubt (doubts_from zones before ls) → IsFirstJobFault zones number before ls fault → ⊥
  no_job_fault number before [] fault h f = f
  no_job_fault number before (l ∷ ls) fault h (inl here) =
      sole_not_first (listing_doubts zones before l) fault.key fault.kind h.0 here.1
  no_job_fault number before (l ∷ ls) fault h (inr behind) =
      no_job_fault (next_job_number number) (before ++ listed_job zones l ∷ []) ls fault h.1 behind.1

  jobs_answered : (answer : Result (List Job) JobFault) → MayReadJobs zones jobs_docs answer
      → answer ≡ Ok demo_jobs
  jobs_answered (Ok jobs) h = ap Ok (h.jobs_are ∙ jobs_are zones)
  jobs_answered (Err fault) h =
      absurd (no_job_fault 1 [] (listings_of jobs_docs) fault (jobs_doubted zones) h)

  jobs_told : (answer : Result (List Job) JobFault) → answer ≡ Ok demo_jobs
      → MayReadJobs zones jobs_docs answer
  jobs_told answer is = subst (MayReadJobs zones jobs_docs) (sym is) (record {
    faultless = are_faultless [] (listings_of jobs_docs) (jobs_doubted zones);
    jobs_are = sym (jobs_are zones);
  })

pub jobs_read : JobsAreRead
jobs_read = (
  jobs_docs,
  jobs_text_read,
  λ zones answer. (jobs_answered zones answer, jobs_told zones answer),
)
