use Rattle.std.proofs.Common.{◌≡◌, map, take}
use Rattle.rb_flow.specs.Kept.{idle_state}
use Rattle.rb_flow.proofs.kept.idle_states.Given as goal

abbrev pub invariant-loop-unit : goal.invariant-loop-unit
invariant-loop-unit l = l.states.items ≡ map idle_state (take l.unit-index l.unit-items)
