-- The documents of the demo are read, and as what.
use Rattle.std.specs.Prelude.{◌≡◌, ◌≤◌, ◌↔◌, ℕ, List, [], ◌∷◌, Result, Ok}
use Rattle.rb_yaml.specs.Tree.{YamlTree}
use Rattle.rb_yaml.specs.Documents.{docs_of}
use Rattle.rb_inventory.specs.Inventories.{inventory_of}
use Rattle.rb_acl.specs.declared.policy.Policy.{Policy}
use Rattle.rb_acl_doc.specs.declared.fault.AclFault.{AclFault}
use Rattle.rb_cron.specs.declared.zone.NamedZone.{NamedZone}
use Rattle.rb_job.specs.declared.fault.JobFault.{JobFault}
use Rattle.rb_job.specs.declared.job.Job.{Job}
use Rattle.rb_log.specs.Readings.{MayReadPolicies, MayReadJobs}
use Rattle.rb_demo.specs.Texts.{demo_nodes_text, policy_text, demo_jobs_text}
use Rattle.rb_demo.specs.Trees.{nodes_doc}
use Rattle.rb_demo.specs.Read.{demo_inventory, demo_policies, demo_jobs}

-- the nodes' text holds one document, and this is read as the demo's nodes
abbrev pub NodesAreRead : Type 0
NodesAreRead =
    (nodes : ℕ) → 1 ≤ nodes → nodes ≤ 1000 →
    (docs_of (demo_nodes_text nodes) ≡ Ok (nodes_doc nodes ∷ []))
    × (inventory_of (nodes_doc nodes ∷ []) ≡ Ok (demo_inventory nodes))

-- the policies' text holds documents, and of these the reader answers the demo's policies, and
-- nothing else
abbrev pub PoliciesAreRead : Type 0
PoliciesAreRead =
    (docs : List YamlTree) × (docs_of policy_text ≡ Ok docs)
    × ((file : List ℕ) (answer : Result (List Policy) AclFault) →
    MayReadPolicies file docs answer ↔ (answer ≡ Ok (demo_policies file)))

-- so does the jobs' text, and of these the reader answers the demo's jobs, whatever zones there are
abbrev pub JobsAreRead : Type 0
JobsAreRead =
    (docs : List YamlTree) × (docs_of demo_jobs_text ≡ Ok docs)
    × ((zones : List NamedZone) (answer : Result (List Job) JobFault) →
    MayReadJobs zones docs answer ↔ (answer ≡ Ok demo_jobs))
