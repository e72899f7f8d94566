-- What the log stands for behind the imports of the demo's documents.
use Rattle.std.proofs.Common.{◌≡◌, List, [], ◌∷◌, ◌++◌, map, refl, ap, ◌∙◌, append-nil}
use Rattle.rb_inventory.specs.Inventories.{inventory_of}
use Rattle.rb_inventory.specs.declared.inventory.Inventory.{Inventory}
use Rattle.rb_acl.specs.declared.policy.Policy.{Policy}
use Rattle.rb_causes.specs.declared.row.Row.{Row}
use Rattle.rb_plan.specs.declared.world.World.{World}
use Rattle.rb_plan.specs.declared.world.HeldJob.{HeldJob}
use Rattle.rb_log.specs.World.{policies_in, inventory_in, jobs_in, put_jobs, imported_by, read_or}
use Rattle.rb_log.specs.LogState.{log_state, world_of}
use Rattle.rb_demo.specs.Read.{demo_inventory, demo_jobs}
use Rattle.rb_demo.specs.Laws.{NodesAreRead}
use Rattle.rb_demo.specs.Settings.{Setting, IsSetting, project, policy_file, nodes_added, policy_added, jobs_added, jobs_log, WorldIsDemo}
use Rattle.rb_demo.proofs.PoliciesRead.{policies_are}
use Rattle.rb_demo.proofs.JobsRead.{jobs_are}

-- a world of one project
abbrev world_by : List Policy → Inventory → List HeldJob → World
world_by policies inventory held = record {
  zones = [];
  policies = record { docs = policies };
  policy_number = 1;
  projects = record { name = project; inventory = inventory; inventory_number = 1; jobs = held } ∷ [];
  running = [];
}

world_is : (d : Setting) → world_of (log_state (jobs_log d))
    ≡ world_by (policies_in (policy_added d) ++ []) (inventory_in (nodes_added d)) (put_jobs (jobs_added d) (jobs_in [] (jobs_added d)) [])
world_is d = refl

inventory_is : NodesAreRead → (d : Setting) → IsSetting d → inventory_in (nodes_added d) ≡ demo_inventory d.nodes
inventory_is law d h =
    let read = law d.nodes h.least h.few in
    ap (λ docs. read_or (record { nodes = [] }) (inventory_of (read_or [] docs))) read.0 ∙ ap (read_or (record { nodes = [] })) read.1

held_are : (row : Row) → put_jobs row demo_jobs [] ≡ map (imported_by row) demo_jobs
held_are row = refl

pub world_read : NodesAreRead → WorldIsDemo
world_read law d h =
    world_is d
    ∙ (λ i. world_by ((append-nil (policies_in (policy_added d)) ∙ policies_are policy_file) i) (inventory_is law d h i) ((ap (λ jobs. put_jobs (jobs_added d) jobs []) (jobs_are []) ∙ held_are (jobs_added d)) i))
