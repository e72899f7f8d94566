use Rattle.std.proofs.Common.{◌≡◌, ◌++◌, drop, map}
use Rattle.rb_canon.specs.Values.{one_text}
use Rattle.rb_canon.specs.Views.{canon_tree}
use Rattle.rb_export.proofs.rules.patterns_value.Given as goal

-- the values so far, with those of the patterns that are left, are all
abbrev pub invariant-loop-pattern : goal.invariant-loop-pattern
invariant-loop-pattern l =
    map canon_tree l.items.items ++ map one_text (drop l.pattern-index l.patterns)
    ≡ map one_text l.patterns
