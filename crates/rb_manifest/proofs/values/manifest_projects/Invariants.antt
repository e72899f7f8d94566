use Rattle.std.proofs.Common.{◌≡◌, take, map}
use Rattle.rb_yaml.specs.Tree.{yaml_tree}
use Rattle.rb_manifest.specs.Manifests.{manifest_project}
use Rattle.rb_manifest.proofs.values.manifest_projects.Given as goal

-- the projects so far
abbrev pub invariant-loop-item : goal.invariant-loop-item
invariant-loop-item l =
    l.projects ≡ map manifest_project (map yaml_tree (take l.item-index l.items))
