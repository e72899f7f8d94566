use Rattle.std.proofs.Common.{◌≡◌, ◌++◌, drop, map}
use Rattle.rb_yaml.specs.Tree.{yaml_tree}
use Rattle.rb_values.specs.Values.{scalar_or_empty}
use Rattle.rb_acl_doc.proofs.texts.item_texts.Given as goal

-- the texts so far and those that are left are all
abbrev pub invariant-loop-item : goal.invariant-loop-item
invariant-loop-item l =
    l.texts ++ map scalar_or_empty (drop l.item-index (map yaml_tree l.items))
    ≡ map scalar_or_empty (map yaml_tree l.items)
