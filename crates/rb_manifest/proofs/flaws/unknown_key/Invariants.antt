use Rattle.std.proofs.Common.{◌≡◌, drop, map}
use Rattle.std.specs.List.{flat_map}
use Rattle.rb_values.specs.Values.{map_entries}
use Rattle.rb_yaml.specs.Tree.{yaml_tree}
use Rattle.rb_manifest.specs.Forms.{unknown_of}
use Rattle.rb_manifest.specs.Rules.{form_of}
use Rattle.rb_manifest.proofs.Firsts.{first}
use Rattle.rb_manifest.proofs.flaws.unknown_key.Given as goal

-- the first such key is in an item that is left
abbrev pub invariant-loop-item : goal.invariant-loop-item
invariant-loop-item l =
    first (flat_map (λ item. unknown_of (form_of l.kind).keys (map_entries item))
    (drop l.item-index (map yaml_tree l.items)))
    ≡ first (flat_map (λ item. unknown_of (form_of l.kind).keys (map_entries item))
    (map yaml_tree l.items))
