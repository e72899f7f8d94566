use Rattle.std.proofs.Common.{◌≡◌, take, map}
use Rattle.rb_yaml.specs.Tree.{yaml_tree}
use Rattle.rb_manifest.specs.Manifests.{manifest_token}
use Rattle.rb_manifest.proofs.values.manifest_tokens.Given as goal

-- the tokens so far
abbrev pub invariant-loop-item : goal.invariant-loop-item
invariant-loop-item l =
    l.tokens ≡ map manifest_token (map yaml_tree (take l.item-index l.items))
