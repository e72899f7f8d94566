-- The leaves of an execution.
use Rattle.std.specs.Prelude.{◌≡◌, ◌≤◌, ◌<◌, length}
use Rattle.rb_marks.specs.declared.mark.Leaf.{Leaf}
use Rattle.rb_log.specs.Executions.{Execution}
use Rattle.rb_log.specs.Sums.{leaf_count}

-- It has no more leaves and commands than a run may have, and a command for each slot.
pub record HasFewLeaves (e : Execution) : Type 0 where
  pub few : leaf_count e ≤ 100000
  pub most : length e.accepted.commands ≤ 1000
  pub commands : length e.accepted.commands ≡ e.accepted.plan.slots

-- The leaf is one of them.
pub record HasLeaf (e : Execution) (leaf : Leaf) : Type 0 where
  pub few : HasFewLeaves e
  pub node : leaf.node < length e.accepted.nodes
  pub slot : leaf.slot < e.accepted.plan.slots
