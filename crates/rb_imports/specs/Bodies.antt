-- What is read of the body of an import of jobs.
use Rattle.std.specs.Prelude.{◌≡◌, ◌⊎◌, ℕ, List, Ok}
use Rattle.rb_cron.specs.declared.zone.NamedZone.{NamedZone}
use Rattle.rb_job.specs.declared.job.Job.{Job}
use Rattle.rb_log.specs.Moves.{read_as}
use Rattle.rb_log.specs.Readings.{MayReadJobs}
use Rattle.rb_log.specs.declared.answer.Answer.{Answer}
use Rattle.rb_log.specs.declared.answer.Answer.TheVariants as answer
use Rattle.rb_tables.specs.Changes.{IsRefusal}
use Rattle.rb_yaml.specs.Documents.{docs_of}
use Rattle.rb_yaml.specs.Tree.{YamlTree}
use Rattle.rb_imports.specs.Importing.{JobsUnread}

-- the jobs of a body, read with these zones
pub record AreJobsOfBody (zones : List NamedZone) (body : List ℕ) (jobs : List Job)
    : Type 0 where
  pub docs : List YamlTree
  pub docs_are : docs_of body ≡ Ok docs
  pub read : MayReadJobs zones docs (Ok jobs)

-- why none were read of its documents
pub record AreDocsUnread (zones : List NamedZone) (body : List ℕ) (a : Answer) : Type 0 where
  pub docs : List YamlTree
  pub docs_are : docs_of body ≡ Ok docs
  pub unread : JobsUnread zones docs a

-- why none were read of it: it holds no documents, or they were not read
abbrev pub IsBodyUnread : List NamedZone → List ℕ → Answer → Type 0
IsBodyUnread zones body a =
    IsRefusal (read_as answer.BadYaml (docs_of body)) a ⊎ AreDocsUnread zones body a
