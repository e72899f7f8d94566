use Rattle.std.proofs.Common.{sym}
use Rattle.rb_wire.proofs.Readings.{drop_range}
use Rattle.rb_wire.proofs.buffer.DoorBuffer.pass.Goals as goal

pub returns-clause-bytes : goal.returns-clause-bytes
returns-clause-bytes c =
    let fits = rw (sym c.self.view_is) at c.requires in
    rw (sym c.self.view_is) (drop_range _ _ _ _ fits)
