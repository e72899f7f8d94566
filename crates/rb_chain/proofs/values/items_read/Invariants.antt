use Rattle.std.proofs.Common.{◌≡◌, take, map}
use Rattle.rb_yaml.specs.Tree.{yaml_tree}
use Rattle.rb_chain.specs.Chains.{run_in}
use Rattle.rb_chain.proofs.values.items_read.Given as goal

-- the runs so far
abbrev pub invariant-loop-item : goal.invariant-loop-item
invariant-loop-item l = l.runs ≡ map run_in (map yaml_tree (take l.item-index l.items))
