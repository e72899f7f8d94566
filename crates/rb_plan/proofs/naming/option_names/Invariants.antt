use Rattle.std.proofs.Common.{◌≡◌, map, take}
use Rattle.rb_plan.specs.Inlined.{option_name}
use Rattle.rb_plan.proofs.naming.option_names.Given as goal

-- the values so far are named
abbrev pub invariant-loop-value : goal.invariant-loop-value
invariant-loop-value l = l.names ≡ map option_name (take l.value-index l.values)
