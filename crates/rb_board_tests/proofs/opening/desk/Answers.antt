use Rattle.std.proofs.Common.{arith}
use Rattle.rb_desk.specs.Tables.{most_rows}
use Rattle.rb_board_tests.proofs.opening.desk.Goals as goal

pub open-requires-clause-room : goal.open-requires-clause-room
unfolding most_rows
open-requires-clause-room c = omega arith
