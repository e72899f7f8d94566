use Rattle.rb_board_tests.specs.Kept.{IsKept}
use Rattle.rb_board_tests.proofs.acting.ask_all.Given as goal

abbrev pub invariant-loop-turn : goal.invariant-loop-turn
invariant-loop-turn g l = IsKept l.fn.pass l.pass
