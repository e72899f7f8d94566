use Rattle.std.proofs.Common.{◌<◌, length, arith, length-take, length-drop}
use Rattle.rb_wire.proofs.Readings.{read_behind, kept_behind}
use Rattle.rb_wire.proofs.buffer.read_behind.Goals as goal

pub returns-clause-ok : goal.returns-clause-ok
returns-clause-ok g c =
    let size = c.read.auto.into in
    let some : 0 < length c.read.new.into = grind (arith, length-take, length-drop, size, c.requires.free) in
    read_behind _ _ _ _ _ _ _ _ c.requires.ordered (omega (arith, c.requires.free)) some
    c.read.ensures.count c.read.ensures.next c.read.ensures.end c.read.ensures.ok

pub returns-clause-kept : goal.returns-clause-kept
returns-clause-kept g c =
    kept_behind _ _ _ _ _ _ c.requires.ordered (omega (arith, c.requires.free))
