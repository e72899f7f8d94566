use Rattle.rb_marks.specs.Units.{outline}
use Rattle.rb_flow.proofs.Going.{NoneGoes}
use Rattle.rb_flow.proofs.choosing.first_going.Given as goal

abbrev pub invariant-loop-place : goal.invariant-loop-place
invariant-loop-place l = NoneGoes (outline l.plan) l.tally l.place-index
