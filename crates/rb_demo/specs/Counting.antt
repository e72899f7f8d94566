-- What is counted in the demo.
use Rattle.std.specs.Prelude.{◌≡◌, ℕ, Bool, true, false, nat_eq, Option, IfSome, IsTrue, List, [], length, filter, flat_map, reverse, Some, codes}
use Rattle.rb_causes.specs.declared.ending.Ending.{Ending}
use Rattle.rb_causes.specs.declared.ending.Ending.TheVariants.{Code, NotStarted}
use Rattle.rb_causes.specs.declared.row.Row.{Row}
use Rattle.rb_causes.specs.declared.spawner.SpawnRun.{SpawnRun}
use Rattle.std.specs.List.{list_all}
use Rattle.rb_acl.specs.declared.policy.Context.TheVariants.{Project as InProject}
use Rattle.rb_marks.specs.declared.mark.Status.{Status}
use Rattle.rb_marks.specs.declared.mark.Status.TheVariants.{Succeeded}
use Rattle.rb_node.specs.declared.node.Node.{Node}
use Rattle.rb_plan.specs.Access.{node_run}
use Rattle.rb_plan.specs.Targets.{runnable}
use Rattle.rb_plan.specs.declared.world.World.{World}
use Rattle.rb_plan.specs.declared.world.Project.{Project}
use Rattle.rb_log.specs.Executions.{Execution, executions}
use Rattle.rb_log.specs.LogState.{log_state, world_of}
use Rattle.rb_log.specs.Looks.{has_status}
use Rattle.rb_log.specs.Rows.{is_accept, is_begin}
use Rattle.rb_work.specs.Works.{Outside}
use Rattle.rb_demo.specs.declared.counts.Counts.{Counts}
use Rattle.rb_demo.specs.Settings.{jobs_log}
use Rattle.rb_demo.specs.Verdicts.{user_in}
use Rattle.rb_demo.specs.Rounds.{setting_of, opened_told, unused, Round, HasPlayed, refused_in}

-- the nodes of a project of a world on which ann may run
abbrev pub nodes_for_ann : World → Project → List Node
nodes_for_ann w p =
    runnable (node_run (record {
      policies = w.policies;
      caller = user_in (codes "ann") [];
      here = InProject p.name;
    })) p.inventory.nodes

abbrev pub allowed_in : World → ℕ
allowed_in w = length (flat_map (nodes_for_ann w) w.projects)

abbrev pub has_succeeded : Execution → Bool
has_succeeded e = has_status (Some Succeeded) e

abbrev pub is_succeeded : Option Status → Bool
is_succeeded (Some Succeeded) = true
is_succeeded other = false

-- how many executions of a log, whose rows come newest first, have succeeded
abbrev pub succeeded_in : List Row → ℕ
succeeded_in past = length (filter has_succeeded (executions past))

-- The counts are those of the log at the end and of the answers; who may run where is told by the
-- world behind the imports.
pub record AreCounts (n : ℕ) (log : List Row) (rounds : List Round) (counts : Counts)
    : Type 0 where
  pub nodes : counts.nodes ≡ n
  pub allowed : counts.allowed ≡ allowed_in (world_of (log_state (jobs_log (setting_of n))))
  pub accepted : counts.accepted ≡ length (filter is_accept log)
  pub denied : counts.denied ≡ refused_in rounds
  pub begins : counts.begins ≡ length (filter is_begin log)
  pub succeeded : counts.succeeded ≡ succeeded_in (reverse log)

-- an end with the code 0
abbrev pub is_zero : Ending → Bool
is_zero (Code code) = nat_eq code 0
is_zero NotStarted = false

abbrev pub ends_with_zero : SpawnRun → Bool
ends_with_zero run = is_zero run.ending

-- The demo of so many nodes was played on a desk from its opening on, each program ended with the
-- code 0, and this was counted.
pub record IsPlayed (nodes : ℕ) (told : Counts) : Type 0 where
  pub ended : Outside
  pub rounds : List Round
  pub played : HasPlayed nodes (record { clerk = opened_told; spawner = unused }) ended rounds
  pub endings : IfSome ended.spawner.runs (λ runs. IsTrue (list_all ends_with_zero runs))
  pub counts : AreCounts nodes ended.clerk.log rounds told
