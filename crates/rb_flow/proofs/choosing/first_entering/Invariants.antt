use Rattle.rb_marks.specs.Units.{outline}
use Rattle.rb_flow.proofs.Turns.{IsSoFar}
use Rattle.rb_flow.proofs.choosing.first_entering.Given as goal

abbrev pub invariant-loop-state : goal.invariant-loop-state
invariant-loop-state l = IsSoFar (outline l.plan) l.tally l.state-index l.start l.at
