use Rattle.std.proofs.Common.{◌≡◌, drop, map}
use Rattle.rb_yaml.specs.Tree.{pair_tree}
use Rattle.rb_manifest.specs.Forms.{unknown_of}
use Rattle.rb_manifest.specs.Rules.{form_of}
use Rattle.rb_manifest.proofs.Firsts.{first}
use Rattle.rb_manifest.proofs.flaws.unknown_in.Given as goal

-- the first such key is among the entries that are left
abbrev pub invariant-loop-entry : goal.invariant-loop-entry
invariant-loop-entry l =
    first (unknown_of (form_of l.kind).keys (drop l.entry-index (map pair_tree l.entries)))
    ≡ first (unknown_of (form_of l.kind).keys (map pair_tree l.entries))
