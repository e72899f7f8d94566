use Rattle.rb_board_tests.proofs.Roles.{set_played}
use Rattle.rb_board_tests.proofs.tests.ask_at.Goals as goal

pub returns-clause-ready : goal.returns-clause-ready
returns-clause-ready g c =
    set_played c.args.board.now c.args.roles.now.items c.args.asked.1 c.index_mut.result.now
    c.ask_as.new.role c.index_mut.ensures.value c.ask_as.ensures c.requires
