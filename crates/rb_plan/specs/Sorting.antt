-- What a pass over the nodes of a project gives.
use Rattle.std.specs.Prelude.{◌≡◌, List}
use Rattle.rb_acl.specs.declared.policy.Decision.{Decision}
use Rattle.rb_node.specs.declared.node.Node.{Node}
use Rattle.rb_plan.specs.Targets.{runnable, dropped}
use Rattle.rb_plan.specs.declared.sorting.SortedNodes.{SortedNodes}

-- of these selected nodes those that may be run, and those that may not
pub record AreSorted (decide : Node
    → Decision) (chosen : List Node) (s : SortedNodes) : Type 0 where
  pub runnable : s.runnable.items ≡ runnable decide chosen
  pub dropped : s.dropped ≡ dropped decide chosen
