use Rattle.std.proofs.Common.{◌≡◌, map, take}
use Rattle.rb_plan.specs.Inlined.{argument_given, site_names}
use Rattle.rb_plan.proofs.inlining.given_at.Given as goal

abbrev pub invariant-loop-arg : goal.invariant-loop-arg
invariant-loop-arg l = l.given ≡ map (argument_given (site_names l.site)) (take l.arg-index l.args)
