use Rattle.std.proofs.Common.{◌≡◌, ◌-◌, ◌++◌}
use Rattle.rb_causes.specs.Numbers.{numbers_from}
use Rattle.rb_orch.proofs.picking.places.Given as goal

-- what is pushed and what is left are all places
abbrev pub invariant-loop-place : goal.invariant-loop-place
invariant-loop-place l = l.all.items ++ numbers_from l.place (l.length - l.place) ≡ numbers_from 0 l.length
