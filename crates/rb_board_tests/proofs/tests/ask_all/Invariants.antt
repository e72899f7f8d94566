use Rattle.std.proofs.Common.{◌≡◌, length}
use Rattle.rb_board_tests.specs.Kept.{AreReady}
use Rattle.rb_board_tests.proofs.tests.ask_all.Given as goal

abbrev pub invariant-loop-place : goal.invariant-loop-place
invariant-loop-place g l =
    AreReady l.board l.roles.items × (length l.roles.items ≡ length l.fn.roles.items)
