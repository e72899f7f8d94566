use Rattle.rb_flow.proofs.Withdrawing.{IsWithdrawn}
use Rattle.rb_flow.proofs.tally.Tally.withdraw.Given as goal

abbrev pub invariant-loop-group : goal.invariant-loop-group
invariant-loop-group l = IsWithdrawn l.fn.self l.self l.group l.node
