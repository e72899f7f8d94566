-- The documents of the demo are imported where none of their kind was before.
use Rattle.std.specs.Prelude.{◌≡◌, ◌≤◌, ◌<◌, ◌+◌, ℕ, ℤ, true, false, List, [], ◌∷◌, length, is_some, None, codes}
use Rattle.std.specs.List.{AllByRecursion as Each}
use Rattle.rb_acl.specs.declared.policy.Caller.{Caller}
use Rattle.rb_log.specs.Readings.{Reading}
use Rattle.rb_log.specs.Rows.{nodes_row, jobs_row, policy_row}
use Rattle.rb_log.specs.World.{LoggedProject, latest_of, latest_nodes}
use Rattle.rb_log.specs.LogState.{LogState, moment}
use Rattle.rb_log.specs.Moves.{Moved, adds, is_name}
use Rattle.rb_log.specs.Imports.{most_files}
use Rattle.rb_log.specs.Turn.{MayRead, unlimited_turn}
use Rattle.rb_log.specs.declared.answer.Answer.TheVariants.{Imported}
use Rattle.rb_log.specs.declared.answer.Action.TheVariants.{Created}
use Rattle.rb_log.specs.declared.answer.ImportedJob.{ImportedJob}
use Rattle.rb_log.specs.declared.call.Call.TheVariants.{ImportNodes, ImportPolicy, ImportJobs}
use Rattle.rb_demo.specs.Texts.{demo_nodes_text, policy_text, demo_jobs_text}

-- ---- nodes

-- the turn that imports the first nodes of a project
abbrev pub first_nodes : LogState → List ℕ → List ℕ → ℤ → Moved
first_nodes s project body at = adds 1 (Imported 1 []) (nodes_row (moment s at) 1 project body)

-- Where a project has no nodes yet, the nodes' text is imported as its first ones.
abbrev pub NodesAreImported : Type 0
NodesAreImported =
    (nodes : ℕ) → 1 ≤ nodes → nodes ≤ 1000 →
    (reading : Reading) (s : LogState) (project : List ℕ) (at : ℤ) →
    is_name project ≡ true → latest_nodes project s.projects ≡ None →
    unlimited_turn reading s (ImportNodes project (demo_nodes_text nodes) at)
    ≡ first_nodes s project (demo_nodes_text nodes) at

-- ---- policies

-- the turn that imports one more policy file
abbrev pub next_policy : LogState → Caller → List ℕ → List ℕ → ℤ → Moved
next_policy s caller file body at =
    adds 1 (Imported (s.policy_number + 1) [])
    (policy_row (moment s at) (s.policy_number + 1) false file caller body)

-- Where no file of this name is there, and there is place for one more, the policies' text is
-- imported, whatever its reader may answer.
abbrev pub PoliciesAreImported : Type 0
PoliciesAreImported =
    (reading : Reading) (s : LogState) (caller : Caller) (file : List ℕ) (at : ℤ) →
    is_name file ≡ true → latest_of file s.files ≡ None → length s.files < most_files →
    MayRead s (ImportPolicy caller false file policy_text at) reading →
    unlimited_turn reading s (ImportPolicy caller false file policy_text at)
    ≡ next_policy s caller file policy_text at

-- ---- jobs

abbrev pub created : List ℕ → ImportedJob
created id = record { id = id; action = Created }

-- what is told of the demo's jobs
abbrev pub created_jobs : List ImportedJob
created_jobs = created (codes "demo-1") ∷ created (codes "demo-2") ∷ created (codes "demo-3") ∷ []

-- the turn that imports the demo's jobs
abbrev pub next_jobs : LogState → Caller → List ℕ → List ℕ → ℤ → Moved
next_jobs s caller project body at =
    adds 1 (Imported (s.jobs_number + 1) created_jobs)
    (jobs_row (moment s at) (s.jobs_number + 1) false project caller body)

abbrev pub HoldsNoJob : LoggedProject → Type 0
HoldsNoJob p = p.jobs ≡ []

-- Where a project has nodes, and none has jobs yet, the jobs' text is imported, whatever its reader
-- may answer.
abbrev pub JobsAreImported : Type 0
JobsAreImported =
    (reading : Reading) (s : LogState) (caller : Caller) (project : List ℕ) (at : ℤ) →
    is_some (latest_nodes project s.projects) ≡ true → Each HoldsNoJob s.projects →
    MayRead s (ImportJobs caller false project demo_jobs_text at) reading →
    unlimited_turn reading s (ImportJobs caller false project demo_jobs_text at)
    ≡ next_jobs s caller project demo_jobs_text at
