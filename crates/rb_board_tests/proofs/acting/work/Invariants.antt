use Rattle.rb_board_tests.specs.Kept.{IsKept}
use Rattle.rb_board_tests.proofs.acting.work.Given as goal

abbrev pub invariant-loop-try : goal.invariant-loop-try
invariant-loop-try g l = IsKept l.fn.pass l.pass
