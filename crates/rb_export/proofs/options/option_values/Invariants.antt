use Rattle.std.proofs.Common.{◌≡◌, ◌++◌, drop, map}
use Rattle.rb_canon.specs.Views.{canon_tree}
use Rattle.rb_export.specs.Jobs.{option_value}
use Rattle.rb_export.proofs.options.option_values.Given as goal

-- the values so far, with those of the options that are left, are all
abbrev pub invariant-loop-option : goal.invariant-loop-option
invariant-loop-option l =
    map canon_tree l.values.items ++ map option_value (drop l.option-index l.options)
    ≡ map option_value l.options
