use Rattle.std.proofs.Common.{◌≡◌, take, map}
use Rattle.rb_values.specs.Values.{scalar_or_empty}
use Rattle.rb_yaml.specs.Tree.{yaml_tree}
use Rattle.rb_manifest.proofs.values.item_texts.Given as goal

-- the texts so far
abbrev pub invariant-loop-item : goal.invariant-loop-item
invariant-loop-item l = l.texts ≡ map scalar_or_empty (map yaml_tree (take l.item-index l.items))
