-- What is decided of an import, once its rules have let it pass.
use Rattle.std.specs.Prelude.{ℕ, ℤ, Bool, List, map, not, [], Result, Err}
use Rattle.rb_yaml.specs.Faults.{◌>>=◌}
use Rattle.rb_yaml.specs.Documents.{docs_of}
use Rattle.rb_yaml.specs.Tree.{YamlTree}
use Rattle.rb_acl.specs.declared.policy.Caller.{Caller}
use Rattle.rb_cron.specs.declared.zone.NamedZone.{NamedZone}
use Rattle.rb_inventory.specs.Inventories.{inventory_of}
use Rattle.rb_inventory.specs.declared.inventory.Inventory.{Inventory}
use Rattle.rb_log.specs.World.{read_or, latest_nodes, latest_of, job_id}
use Rattle.rb_job.specs.declared.job.Job.{Job}
use Rattle.rb_log.specs.Imports.{imported, changes_any, ids_free, names_free, if_checked, may_import_jobs}
use Rattle.rb_log.specs.LogState.{LogState, moment, nodes_number}
use Rattle.rb_log.specs.Moves.{Moved, has_body, access_in}
use Rattle.rb_log.specs.Readings.{MayReadPolicies, MayReadJobs}
use Rattle.rb_log.specs.Rows.{zone_row, nodes_row, policy_row, jobs_row}
use Rattle.rb_log.specs.declared.answer.Answer.{Answer}
use Rattle.rb_log.specs.declared.answer.Answer.TheVariants as answer
use Rattle.rb_log.specs.declared.answer.ImportedJob.{ImportedJob}

-- the documents and the inventory of a body
abbrev pub body_docs : List ℕ → List YamlTree
body_docs body = read_or [] (docs_of body)

abbrev pub body_inventory : List ℕ → Inventory
body_inventory body = read_or (record { nodes = [] }) (inventory_of (body_docs body))

-- a zone whose rule is one
abbrev pub zone_moved : LogState → ℤ → List ℕ → List ℕ → Moved
zone_moved s at zone rule =
    imported (not (has_body rule (latest_of zone s.zones))) s.zones_number []
    (λ number. zone_row (moment s at) number zone rule)

-- nodes of a project that has a name, whose body was read
abbrev pub nodes_moved : LogState → ℤ → List ℕ → List ℕ → Moved
nodes_moved s at project body =
    imported (not (has_body body (latest_nodes project s.projects))) (nodes_number s project) []
    (λ number. nodes_row (moment s at) number project body)

-- a policy file that has a name and a place, whose body was read, by a caller who may import it
abbrev pub policy_moved : LogState → ℤ → Caller → Bool → List ℕ → List ℕ → Moved
policy_moved s at caller checked name body =
    imported (not (has_body body (latest_of name s.files))) s.policy_number []
    (λ number. policy_row (moment s at) number checked name caller body)

-- jobs with which this is done, whose body was read, by a caller who may import them
abbrev pub jobs_moved : LogState → ℤ → Caller → Bool → List ℕ → List ℕ → List ImportedJob → Moved
jobs_moved s at caller checked project body done =
    imported (changes_any done) s.jobs_number done
    (λ number. jobs_row (moment s at) number checked project caller body)

-- jobs whose ids and names are free, by a caller who may import them
abbrev pub jobs_kept : LogState → Caller → Bool → List ℕ → List Job → Result Bool Answer
jobs_kept s caller checked project jobs =
    ids_free s.projects project [] (map (job_id project) jobs) >>= λ free.
    names_free s.projects project jobs >>= λ unnamed.
    if_checked checked (may_import_jobs (access_in s project caller) project s.projects jobs)

-- why policies were not read: memory was wanting, or they have this fault
abbrev pub PoliciesUnread : List ℕ → List YamlTree → Answer → Type 0
PoliciesUnread file docs answer.NoMemory = Unit {0}
PoliciesUnread file docs (answer.BadPolicy fault) = MayReadPolicies file docs (Err fault)
PoliciesUnread file docs other = ⊥

-- and why jobs were not
abbrev pub JobsUnread : List NamedZone → List YamlTree → Answer → Type 0
JobsUnread zones docs answer.NoMemory = Unit {0}
JobsUnread zones docs (answer.BadJobs fault) = MayReadJobs zones docs (Err fault)
JobsUnread zones docs other = ⊥
