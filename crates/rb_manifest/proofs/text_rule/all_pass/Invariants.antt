use Rattle.std.proofs.Common.{◌≡◌, drop, map}
use Rattle.std.specs.List.{list_all}
use Rattle.rb_yaml.specs.Tree.{yaml_tree}
use Rattle.rb_manifest.specs.Forms.{is_text_with}
use Rattle.rb_manifest.specs.Rules.{test_of}
use Rattle.rb_manifest.proofs.text_rule.all_pass.Given as goal

-- the items that are left pass where all do
abbrev pub invariant-loop-item : goal.invariant-loop-item
invariant-loop-item l =
    list_all (is_text_with (test_of l.rule)) (drop l.item-index (map yaml_tree l.items))
    ≡ list_all (is_text_with (test_of l.rule)) (map yaml_tree l.items)
