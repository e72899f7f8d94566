-- A desk into which the demo's documents are imported one after another, behind its opening.
use Rattle.std.specs.Prelude.{◌≡◌, ◌≤◌, ◌+◌, ◌^◌, ℕ, ℤ, false, List, [], ◌∷◌, length, map, codes}
use Rattle.rb_causes.specs.declared.row.Row.{Row}
use Rattle.rb_acl.specs.declared.policy.Caller.{Caller}
use Rattle.rb_plan.specs.declared.world.World.{World}
use Rattle.rb_plan.specs.declared.world.Project.{Project}
use Rattle.rb_log.specs.Readings.{Reading}
use Rattle.rb_log.specs.Rows.{opened_row, nodes_row, jobs_row, policy_row, who_text}
use Rattle.rb_log.specs.World.{imported_by}
use Rattle.rb_log.specs.LogState.{log_state, world_of}
use Rattle.rb_log.specs.Moves.{adds}
use Rattle.rb_log.specs.Turn.{MayRead, turn_of}
use Rattle.rb_log.specs.declared.answer.Answer.TheVariants.{Imported}
use Rattle.rb_log.specs.declared.call.Call.{Call}
use Rattle.rb_log.specs.declared.call.Call.TheVariants.{ImportNodes, ImportPolicy, ImportJobs}
use Rattle.rb_demo.specs.Texts.{demo_nodes_text, policy_text, demo_jobs_text}
use Rattle.rb_demo.specs.Read.{demo_inventory, demo_policies, demo_jobs}
use Rattle.rb_demo.specs.Imports.{created_jobs}

-- the project, and the policies' file
abbrev pub project : List ℕ
project = codes "demo"

abbrev pub policy_file : List ℕ
policy_file = codes "demo.aclpolicy"

-- So many nodes, how the desk was opened and with what room, who imports, and the moment at which
-- the clock stands.
pub record Setting : Type 0 where
  pub nodes : ℕ
  pub doors : ℕ
  pub workers : ℕ
  pub draw : ℕ
  pub room : ℕ
  pub importer : Caller
  pub at : ℤ

-- the number of nodes is one of the demo's, four rows and a Close of each door have room, and the
-- importer's names are not too long
pub record IsSetting (d : Setting) : Type 0 where
  pub least : 1 ≤ d.nodes
  pub few : d.nodes ≤ 1000
  pub room : d.doors + 4 ≤ d.room
  pub short : length (who_text d.importer) ≤ 2 ^ 20

-- ---- the calls

abbrev pub nodes_call : Setting → Call
nodes_call d = ImportNodes project (demo_nodes_text d.nodes) d.at

abbrev pub policy_call : Setting → Call
policy_call d = ImportPolicy d.importer false policy_file policy_text d.at

abbrev pub jobs_call : Setting → Call
jobs_call d = ImportJobs d.importer false project demo_jobs_text d.at

-- ---- the rows, and the log behind each: newest first

abbrev pub nodes_added : Setting → Row
nodes_added d = nodes_row d.at 1 project (demo_nodes_text d.nodes)

abbrev pub policy_added : Setting → Row
policy_added d = policy_row d.at 1 false policy_file d.importer policy_text

abbrev pub jobs_added : Setting → Row
jobs_added d = jobs_row d.at 1 false project d.importer demo_jobs_text

abbrev pub opened_log : Setting → List Row
opened_log d = opened_row d.at d.doors d.workers d.draw ∷ []

abbrev pub nodes_log : Setting → List Row
nodes_log d = nodes_added d ∷ opened_log d

abbrev pub policy_log : Setting → List Row
policy_log d = policy_added d ∷ nodes_log d

abbrev pub jobs_log : Setting → List Row
jobs_log d = jobs_added d ∷ policy_log d

-- ---- laws

-- each import is answered as the first of its kind, whatever its reader may answer
abbrev pub DemoIsImported : Type 0
DemoIsImported =
    (d : Setting) → IsSetting d → (reading : Reading) →
    (turn_of reading (opened_log d) d.room (nodes_call d)
    ≡ adds 1 (Imported 1 []) (nodes_added d))
    × (MayRead (log_state (nodes_log d)) (policy_call d) reading →
    turn_of reading (nodes_log d) d.room (policy_call d)
    ≡ adds 1 (Imported 1 []) (policy_added d))
    × (MayRead (log_state (policy_log d)) (jobs_call d) reading →
    turn_of reading (policy_log d) d.room (jobs_call d)
    ≡ adds 1 (Imported 1 created_jobs) (jobs_added d))

-- the demo's project with its nodes and jobs, and the demo's policies
abbrev pub demo_project : Setting → Project
demo_project d = record {
  name = project;
  inventory = demo_inventory d.nodes;
  inventory_number = 1;
  jobs = map (imported_by (jobs_added d)) demo_jobs;
}

abbrev pub demo_world : Setting → World
demo_world d = record {
  zones = [];
  policies = record { docs = demo_policies policy_file };
  policy_number = 1;
  projects = demo_project d ∷ [];
  running = [];
}

-- what the log stands for behind these imports
abbrev pub WorldIsDemo : Type 0
WorldIsDemo =
    (d : Setting) → IsSetting d → world_of (log_state (jobs_log d)) ≡ demo_world d
