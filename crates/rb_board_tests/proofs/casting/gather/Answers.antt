use Rattle.std.proofs.Common.{◌∙◌, ◌+◌, ap, length, arith}
use Rattle.rb_board_tests.proofs.Roles.{are_ready, count_new}
use Rattle.rb_board_tests.proofs.casting.gather.Goals as goal

pub cast-requires-clause-room : goal.cast-requires-clause-room
cast-requires-clause-room c =
    omega (
      arith,
      ap length c.in-Ok.ensures.passes,
      count_new c.in_ok-board.board.id c.in_ok-board.board.opening (c.args.doors + c.args.workers),
      c.in_ok-roles.ensures.capacity,
    )

pub returns-in-Ok-clause-ready : goal.returns-in-Ok-clause-ready
returns-in-Ok-clause-ready c =
    are_ready c.passes.new.self c.in-Ok.passes.items c.cast.new.roles.items
    c.in_ok-board.board.id c.in_ok-board.board.opening (c.args.doors + c.args.workers)
    c.in-Ok.ensures.passes c.passes.ensures.same.0 c.in-Ok.ensures.made c.cast.ensures.cast
