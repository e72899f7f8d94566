use Rattle.std.proofs.Common.{◌≡◌, ◌++◌, drop, map}
use Rattle.rb_canon.specs.Views.{canon_tree}
use Rattle.rb_export.specs.Jobs.{step_value}
use Rattle.rb_export.proofs.steps.step_values.Given as goal

-- the values so far, with those of the steps that are left, are all
abbrev pub invariant-loop-step : goal.invariant-loop-step
invariant-loop-step l =
    map canon_tree l.values.items ++ map step_value (drop l.step-index l.steps)
    ≡ map step_value l.steps
