use Rattle.std.proofs.Common.{◌≡◌, drop, map}
use Rattle.std.specs.List.{list_all}
use Rattle.rb_values.specs.Values.{entries_in}
use Rattle.rb_yaml.specs.Tree.{yaml_tree}
use Rattle.rb_manifest.specs.Forms.{is_formed_map}
use Rattle.rb_manifest.specs.Rules.{form_of}
use Rattle.rb_manifest.proofs.entries.all_formed.Given as goal

-- the items that are left are formed where all are
abbrev pub invariant-loop-item : goal.invariant-loop-item
invariant-loop-item l =
    list_all (λ item. is_formed_map (form_of l.kind).keys (entries_in item))
    (drop l.item-index (map yaml_tree l.items))
    ≡ list_all (λ item. is_formed_map (form_of l.kind).keys (entries_in item))
    (map yaml_tree l.items)
