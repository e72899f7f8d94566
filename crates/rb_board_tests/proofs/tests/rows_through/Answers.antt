use Rattle.rb_board_tests.proofs.Roles.{new_ids, new_numbers}
use Rattle.rb_board_tests.proofs.tests.rows_through.Goals as goal

pub close-requires-clause-board : goal.close-requires-clause-board
close-requires-clause-board c =
    new_ids c.passes.new.self c.in-Ok.passes.items c.in_ok-board.board.id
    c.in_ok-board.board.opening c.args.count c.in-Ok.ensures.passes c.passes.ensures.same.0

pub close-requires-clause-all : goal.close-requires-clause-all
close-requires-clause-all c =
    new_numbers c.passes.new.self c.in-Ok.passes.items c.in_ok-board.board.id
    c.in_ok-board.board.opening c.args.count c.in-Ok.ensures.passes c.in-Ok.ensures.made
