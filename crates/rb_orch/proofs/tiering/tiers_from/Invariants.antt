use Rattle.std.proofs.Common.{◌≡◌, ◌≤◌, ◌++◌, ◌∷◌, drop}
use Rattle.std.specs.Option.{option_copied}
use Rattle.rb_orch.specs.Tiering.{tiers_behind}
use Rattle.rb_orch.proofs.tiering.tiers_from.Given as goal

-- what is pushed and the tiers of the nodes left are all tiers, and a node has raised the tier by
-- one at most
abbrev pub invariant-loop-node : goal.invariant-loop-node
invariant-loop-node l = record {
  all : l.numbers.items ++ tiers_behind (option_copied l.by) l.before l.tier
      (drop l.node-index l.rest)
      ≡ 0 ∷ tiers_behind (option_copied l.by) l.first 0 l.rest;
  tier : l.tier ≤ l.node-index;
}
