use Rattle.std.proofs.Common.{arith}
use Rattle.rb_desk.specs.Tables.{most_rows}
use Rattle.rb_desk_tests.proofs.desks.opened.Goals as goal

pub open-requires-clause-room : goal.open-requires-clause-room
unfolding most_rows
open-requires-clause-room g c = omega (arith, c.min-room.ensures)
