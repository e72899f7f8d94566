use Rattle.std.proofs.Common.{◌≡◌, take, map}
use Rattle.rb_yaml.specs.Tree.{yaml_tree}
use Rattle.rb_manifest.specs.Manifests.{manifest_zone}
use Rattle.rb_manifest.proofs.values.manifest_zones.Given as goal

-- the zones so far
abbrev pub invariant-loop-item : goal.invariant-loop-item
invariant-loop-item l =
    l.zones ≡ map manifest_zone (map yaml_tree (take l.item-index l.items))
