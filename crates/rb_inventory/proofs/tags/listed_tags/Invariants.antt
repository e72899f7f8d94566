use Rattle.std.proofs.Common.{◌≡◌, ◌++◌, drop, map}
use Rattle.std.specs.List.{list_all}
use Rattle.rb_yaml.specs.Tree.{yaml_tree}
use Rattle.rb_values.specs.Values.{is_text, scalar_or_empty}
use Rattle.rb_inventory.specs.Tags.{filled}
use Rattle.rb_inventory.proofs.tags.listed_tags.Given as goal

-- the items that are left are texts where all are, and the tags so far and theirs are all tags
abbrev pub invariant-loop-item : goal.invariant-loop-item
invariant-loop-item l = record {
  texts : list_all is_text (drop l.item-index (map yaml_tree l.items)) ≡ list_all is_text (map yaml_tree l.items);
  tags : l.tags ++ filled (map scalar_or_empty (drop l.item-index (map yaml_tree l.items))) ≡ filled (map scalar_or_empty (map yaml_tree l.items));
}
