use Rattle.rb_board_tests.proofs.Roles.{ids_back, numbers_back}
use Rattle.rb_board_tests.proofs.casting.dismiss.Goals as goal

pub close-requires-clause-board : goal.close-requires-clause-board
close-requires-clause-board c =
    ids_back c.args.company.board c.args.company.roles.items c.uncast.new.back.items
    c.uncast.ensures c.requires.all

pub close-requires-clause-all : goal.close-requires-clause-all
close-requires-clause-all c =
    numbers_back c.args.company.board c.args.company.roles.items c.uncast.new.back.items
    c.uncast.ensures c.requires.all
