-- What is read again of exported documents.
use Rattle.std.specs.Prelude.{◌≡◌, ℕ, List, map}
use Rattle.rb_yaml.specs.Tree.{YamlTree}
use Rattle.std.specs.List.{AllByRecursion as Each}
use Rattle.rb_cron.specs.declared.zone.NamedZone.{NamedZone}
use Rattle.rb_job.specs.Jobs.{listed_job}
use Rattle.rb_job.specs.Listings.{listings_of}
use Rattle.rb_job.specs.declared.job.Job.{Job}
use Rattle.rb_acl.specs.declared.policy.Policy.{Policy}
use Rattle.rb_acl_doc.specs.Policies.{policies_from}
use Rattle.rb_acl_doc.specs.Reading.{AreSound}
use Rattle.rb_canon_laws.specs.Trees.{lineless, tree_of}
use Rattle.rb_export.specs.Policies.{policy_value}
use Rattle.rb_export.specs.Exports.{policies_text}
use Rattle.rb_export.specs.Jobs.{jobs_values}
use Rattle.rb_export_laws.specs.ReadJobs.{IsReadJob}
use Rattle.rb_export_laws.specs.ShapedJobs.{IsShapedJob}

-- without their lines, documents are those that these policies are written as
abbrev pub AreWritten : List Policy → List YamlTree → Type 0
AreWritten policies docs = map lineless docs ≡ map tree_of (map policy_value policies)

-- Policies that were read of documents are read again of the documents that they are written as:
-- these are sound, and under one file name both give the same policies, in the same places.
pub record PolicyDocsReadBack : Type 0 where
  pub sound : (file : List ℕ) (docs again : List YamlTree) → AreSound docs
      → AreWritten (policies_from file 1 docs) again → AreSound again
  pub same : (file other : List ℕ) (docs again : List YamlTree)
      → AreWritten (policies_from file 1 docs) again
      → policies_from other 1 again ≡ policies_from other 1 docs

-- what was read again has the same text, under whatever file names
abbrev pub PoliciesHaveOneText : Type 0
PoliciesHaveOneText =
    (file other : List ℕ) (docs again : List YamlTree) →
    AreWritten (policies_from file 1 docs) again →
    policies_text (policies_from other 1 again) ≡ policies_text (policies_from file 1 docs)

-- Jobs such as a reader gives are listed again, the same and in the same order, in the documents
-- that they are written as, whatever zones are known.
abbrev pub JobDocsReadBack : Type 0
JobDocsReadBack =
    (zones : List NamedZone) (jobs : List Job) (again : List YamlTree) →
    Each IsReadJob jobs →
    map lineless again ≡ map tree_of (jobs_values jobs) →
    map (listed_job zones) (listings_of again) ≡ jobs

-- Whatever documents list as jobs has numbers in their ranges, options with names, and handlers
-- that refer to no job.
abbrev pub ListedAreShaped : Type 0
ListedAreShaped =
    (zones : List NamedZone) (docs : List YamlTree) →
    Each IsShapedJob (map (listed_job zones) (listings_of docs))
