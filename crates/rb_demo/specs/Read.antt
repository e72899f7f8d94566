-- What the documents of the demo are read as: the nodes, the policies and the jobs.
use Rattle.std.specs.Prelude.{ℕ, true, false, List, [], ◌∷◌, map, Some, None, codes}
use Rattle.rb_causes.specs.Numbers.{numbers_from}
use Rattle.rb_text.specs.declared.value.Value.TheVariants.{Plain}
use Rattle.rb_node.specs.declared.node.Node.{Node}
use Rattle.rb_inventory.specs.declared.inventory.Inventory.{Inventory}
use Rattle.rb_acl.specs.declared.policy.ByRule.TheVariants.{User}
use Rattle.rb_acl.specs.declared.policy.Scope.TheVariants.{Project}
use Rattle.rb_acl.specs.declared.policy.Test.{Test}
use Rattle.rb_acl.specs.declared.policy.Test.TheVariants.{Contains}
use Rattle.rb_acl.specs.declared.policy.Rule.{Rule}
use Rattle.rb_acl.specs.declared.policy.TypeRules.{TypeRules}
use Rattle.rb_acl.specs.declared.policy.Policy.{Policy}
use Rattle.rb_marks.specs.declared.plan.Strategy.{Strategy}
use Rattle.rb_marks.specs.declared.plan.Strategy.TheVariants.{NodeFirst, Sequential, Parallel}
use Rattle.rb_job.specs.declared.job.Job.{Job}
use Rattle.rb_job.specs.declared.job.JobStep.{JobStep}
use Rattle.rb_job.specs.declared.job.JobAct.TheVariants.{Exec}
use Rattle.rb_job.specs.declared.job.Orchestrator.TheVariants as orchestrator
use Rattle.rb_demo.specs.Numbers.{demo_node_name, node_tag}

-- ---- nodes

-- the node of a number: it has one tag, and no other attribute
abbrev pub demo_node : ℕ → Node
demo_node number =
    record { name = demo_node_name number; attrs = []; tags = node_tag number ∷ [] }

-- the nodes from 1 on
abbrev pub demo_inventory : ℕ → Inventory
demo_inventory nodes = record { nodes = map demo_node (numbers_from 1 nodes) }

-- ---- policies

-- reading and running, on what meets the tests
abbrev pub runs_where : List Test → Rule
runs_where tests =
    record { allow = codes "read" ∷ codes "run" ∷ []; deny = []; tests = tests }

abbrev pub all_jobs : TypeRules
all_jobs = record { name = codes "job"; rules = runs_where [] ∷ [] }

abbrev pub even_nodes : TypeRules
even_nodes = record {
  name = codes "node";
  rules = runs_where (Contains (codes "tags") (codes "even" ∷ []) ∷ []) ∷ [];
}

-- the policy at a place of a file, for one user in the demo's project
abbrev pub policy_for : List ℕ → ℕ → List ℕ → List TypeRules → Policy
policy_for file place user types = record {
  file = file;
  place = place;
  scope = Project (Plain (codes "demo"));
  by = User (Plain user) ∷ [];
  types = types;
}

-- ann runs all jobs on even nodes, bob all jobs on none
abbrev pub demo_policies : List ℕ → List Policy
demo_policies file =
    policy_for file 1 (codes "ann") (all_jobs ∷ even_nodes ∷ [])
    ∷ policy_for file 2 (codes "bob") (all_jobs ∷ [])
    ∷ []

-- ---- jobs

-- a step that says its place and the node's name
abbrev pub says : List ℕ → JobStep
says place = record {
  act = Exec (codes "echo" ∷ place ∷ codes "${node.name}" ∷ []);
  handler = None;
  keep_on_success = false;
}

-- a job of two steps on all nodes, four of them at a time
abbrev pub demo_job : List ℕ → List ℕ → Strategy → Job
demo_job id name strategy = record {
  id = Some id;
  name = name;
  group = [];
  strategy = strategy;
  keepgoing = false;
  steps = says (codes "first") ∷ says (codes "second") ∷ [];
  options = [];
  filter = codes ".*";
  threads = 4;
  keep_nodes = false;
  exclude_first = true;
  success_on_empty = false;
  rank_by = None;
  rank_down = false;
  orchestrator = orchestrator.Plain;
  schedule = None;
  multiple = false;
  enabled = true;
  schedule_enabled = true;
}

-- one for each strategy
abbrev pub demo_jobs : List Job
demo_jobs =
    demo_job (codes "demo-1") (codes "node-first") NodeFirst
    ∷ demo_job (codes "demo-2") (codes "sequential") Sequential
    ∷ demo_job (codes "demo-3") (codes "parallel") Parallel
    ∷ []
