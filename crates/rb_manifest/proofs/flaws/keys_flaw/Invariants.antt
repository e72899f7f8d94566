use Rattle.std.proofs.Common.{◌≡◌, drop, map}
use Rattle.std.specs.List.{flat_map}
use Rattle.rb_yaml.specs.Tree.{pair_tree}
use Rattle.rb_manifest.specs.Keys.{flaws_under, manifest_keys}
use Rattle.rb_manifest.proofs.Firsts.{first}
use Rattle.rb_manifest.proofs.flaws.keys_flaw.Given as goal

-- the first flaw is under a key that is left
abbrev pub invariant-loop-entry : goal.invariant-loop-entry
invariant-loop-entry l =
    first (flat_map (flaws_under manifest_keys) (drop l.entry-index (map pair_tree l.entries)))
    ≡ first (flat_map (flaws_under manifest_keys) (map pair_tree l.entries))
