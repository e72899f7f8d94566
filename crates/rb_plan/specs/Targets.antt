-- The nodes of a run: those that are selected, those that may be run, and their order.
use Rattle.std.specs.Prelude.{ℕ, not, List, filter, map, length, Option, Some, None, unwrap_or}
use Rattle.rb_acl.specs.declared.policy.Decision.{Decision}
use Rattle.rb_acl.specs.Deciding.{is_allowed}
use Rattle.rb_node.specs.Filters.{selects}
use Rattle.rb_node.specs.declared.node.Node.{Node}
use Rattle.rb_job.specs.declared.job.Job.{Job}
use Rattle.rb_job.specs.declared.job.Orchestrator.{Orchestrator}
use Rattle.rb_job.specs.declared.job.Orchestrator.TheVariants.{Plain, Subset, RankTiered, MaxPercentage}
use Rattle.rb_orch.specs.Bounding.{bound_of}
use Rattle.rb_orch.specs.Ranking.{ranked}
use Rattle.rb_orch.specs.Picking.{subset_of}
use Rattle.rb_orch.specs.Tiering.{tiers_of}
use Rattle.rb_plan.specs.declared.world.RunAsk.{RunAsk}
use Rattle.rb_plan.specs.declared.accepted.Dropped.{Dropped}

-- the nodes that the ask's filter selects, or where it has none the job's
abbrev pub chosen_nodes : RunAsk → Job → List Node → List Node
chosen_nodes ask job nodes =
    filter (selects (unwrap_or ask.filter job.filter) job.exclude_first) nodes

-- those that may be run
abbrev pub runnable : (Node → Decision) → List Node → List Node
runnable decide nodes = filter (λ node. is_allowed (decide node)) nodes

-- those that may not, each with its decision
abbrev pub dropped : (Node → Decision) → List Node → List Dropped
dropped decide nodes =
    map (λ node. record { node = node.name; decision = decide node })
    (filter (λ node. not (is_allowed (decide node))) nodes)

-- what an orchestrator takes of the ranked nodes
abbrev pub cut : Orchestrator → ℕ → List Node → List Node
cut Plain draw nodes = nodes
cut (Subset count) draw nodes = subset_of nodes count draw
cut RankTiered draw nodes = nodes
cut (MaxPercentage percent) draw nodes = nodes

-- the nodes of a run, of those that may be run
abbrev pub targets : Job → ℕ → List Node → List Node
targets job draw nodes = cut job.orchestrator draw (ranked job.rank_by job.rank_down nodes)

-- the tiers of these nodes: by rank value, or all in one
abbrev pub target_tiers : Orchestrator → Option (List ℕ) → List Node → List ℕ
target_tiers RankTiered by nodes = tiers_of by nodes
target_tiers Plain by nodes = map (λ node. 0) nodes
target_tiers (Subset count) by nodes = map (λ node. 0) nodes
target_tiers (MaxPercentage percent) by nodes = map (λ node. 0) nodes

-- the share of the nodes that may be in work at once
abbrev pub percent_of : Orchestrator → Option ℕ
percent_of Plain = None
percent_of (Subset count) = None
percent_of RankTiered = None
percent_of (MaxPercentage percent) = Some percent

-- how many of these nodes may be in work at once
abbrev pub target_bound : Job → List Node → ℕ
target_bound job nodes = bound_of job.threads (percent_of job.orchestrator) (length nodes)
