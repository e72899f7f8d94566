use Rattle.std.proofs.Common.{◌≡◌, [], take, map, unwrap_or}
use Rattle.rb_values.specs.Values.{map_entries, text_at}
use Rattle.rb_yaml.specs.Tree.{yaml_tree}
use Rattle.rb_manifest.specs.Rules.{form_of}
use Rattle.rb_manifest.proofs.entries.item_names.Given as goal

-- the names so far
abbrev pub invariant-loop-item : goal.invariant-loop-item
invariant-loop-item l =
    l.names ≡ map (λ item. unwrap_or (text_at (map_entries item) (form_of l.kind).name_key) [])
    (map yaml_tree (take l.item-index l.items))
