use Rattle.std.proofs.Common.{◌≡◌}
use Rattle.rb_ground_tests.proofs.flows.play.Given as goal

abbrev pub invariant-loop-code : goal.invariant-loop-code
invariant-loop-code l = l.flow.plan ≡ l.initial.flow.plan
