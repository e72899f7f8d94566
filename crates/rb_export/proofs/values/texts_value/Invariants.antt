use Rattle.std.proofs.Common.{◌≡◌, ◌++◌, drop, map}
use Rattle.rb_canon.specs.Values.{one_text}
use Rattle.rb_canon.specs.Views.{canon_tree}
use Rattle.rb_export.proofs.values.texts_value.Given as goal

-- the values so far, with those of the texts that are left, are all
abbrev pub invariant-loop-s : goal.invariant-loop-s
invariant-loop-s l =
    map canon_tree l.items.items ++ map one_text (drop l.s-index l.texts) ≡ map one_text l.texts
