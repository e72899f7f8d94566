-- What the demo's policies decide in its project, and which nodes its jobs choose.
use Rattle.std.specs.Prelude.{◌≡◌, ◌≤◌, ℕ, true, List, [], map, filter, None, codes}
use Rattle.rb_causes.specs.Numbers.{numbers_from}
use Rattle.rb_acl.specs.declared.policy.Context.TheVariants.{Project}
use Rattle.rb_acl.specs.declared.policy.Decision.TheVariants.{NoneAllows}
use Rattle.rb_acl.specs.Deciding.{is_allowed}
use Rattle.rb_node.specs.declared.node.Node.{Node}
use Rattle.rb_marks.specs.declared.plan.Strategy.{Strategy}
use Rattle.rb_plan.specs.declared.world.HeldJob.{HeldJob}
use Rattle.rb_plan.specs.declared.world.RunAsk.{RunAsk}
use Rattle.rb_plan.specs.Access.{Access, job_run, node_run}
use Rattle.rb_plan.specs.Targets.{chosen_nodes, runnable}
use Rattle.rb_demo.specs.Numbers.{is_even, draw_at}
use Rattle.rb_demo.specs.Read.{demo_node, demo_policies, demo_job}

-- a user with any groups, under the policies of this file
abbrev pub access_for : List ℕ → List (List ℕ) → List ℕ → Access
access_for user groups file = record {
  policies = record { docs = demo_policies file };
  caller = record { user = user; groups = groups };
  here = Project (codes "demo");
}

abbrev pub ann_in : List (List ℕ) → List ℕ → Access
ann_in groups file = access_for (codes "ann") groups file

abbrev pub bob_in : List (List ℕ) → List ℕ → Access
bob_in groups file = access_for (codes "bob") groups file

-- both may run all jobs; ann may run on the nodes whose draw is even, and bob on none
pub record HasRights (groups : List (List ℕ)) (file : List ℕ) : Type 0 where
  pub ann_jobs : (held : HeldJob) → is_allowed (job_run (ann_in groups file) held) ≡ true
  pub bob_jobs : (held : HeldJob) → is_allowed (job_run (bob_in groups file) held) ≡ true
  pub ann_nodes : (number : ℕ) →
      is_allowed (node_run (ann_in groups file) (demo_node number)) ≡ is_even (draw_at number)
  pub bob_nodes : (node : Node) → node_run (bob_in groups file) node ≡ NoneAllows

-- so it is whatever the groups, and whatever the file is called
abbrev pub RightsAreGiven : Type 0
RightsAreGiven = (groups : List (List ℕ)) (file : List ℕ) → HasRights groups file

-- ---- the nodes of a run

abbrev pub demo_nodes : ℕ → List Node
demo_nodes nodes = map demo_node (numbers_from 1 nodes)

-- those whose draw is even
abbrev pub even_numbers : ℕ → List ℕ
even_numbers nodes = filter (λ number. is_even (draw_at number)) (numbers_from 1 nodes)

-- each of the demo's jobs chooses all nodes, where the ask has no filter of its own
abbrev pub AllAreChosen : Type 0
AllAreChosen =
    (nodes : ℕ) (ask : RunAsk) (id name : List ℕ) (strategy : Strategy) →
    nodes ≤ 1000 → ask.filter ≡ None →
    chosen_nodes ask (demo_job id name strategy) (demo_nodes nodes) ≡ demo_nodes nodes

-- of all nodes ann may run on those whose draw is even, and bob on none
abbrev pub EvenAreRunnable : Type 0
EvenAreRunnable =
    (nodes : ℕ) (groups : List (List ℕ)) (file : List ℕ) →
    (runnable (node_run (ann_in groups file)) (demo_nodes nodes)
    ≡ map demo_node (even_numbers nodes))
    × (runnable (node_run (bob_in groups file)) (demo_nodes nodes) ≡ [])
