use Rattle.std.proofs.Common.{◌≡◌, drop, map}
use Rattle.rb_yaml.specs.Tree.{yaml_tree}
use Rattle.rb_values.specs.Values.{scalar_or_empty}
use Rattle.rb_acl_doc.specs.Keys.{has_filled}
use Rattle.rb_acl_doc.proofs.flaws.one_filled.Given as goal

-- a filled text is among the items that are left
abbrev pub invariant-loop-item : goal.invariant-loop-item
invariant-loop-item l = has_filled (map scalar_or_empty (drop l.item-index (map yaml_tree l.items)))
    ≡ has_filled (map scalar_or_empty (map yaml_tree l.items))
