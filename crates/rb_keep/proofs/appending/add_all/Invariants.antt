use Rattle.std.proofs.Common.{◌≡◌, ◌+ℤ◌, pos, take, Ok}
use Rattle.sqlite.specs.Held.{state}
use Rattle.sqlite.specs.State.{HasCleanDisk}
use Rattle.rb_keep.specs.Passing.{Stays}
use Rattle.rb_keep.specs.Tables.{Adds}
use Rattle.rb_keep.proofs.appending.add_all.Given as goal

-- nothing was ended so far, and the rows that were gone through stand behind the log
abbrev pub invariant-loop-row : goal.invariant-loop-row
invariant-loop-row g l =
    let old = state g.S.Store l.fn.tx.conn.now in
    let new = state g.S.Store l.tx.conn.now in
    record {
      same_reference : l.tx.conn.ghost_name ≡ l.fn.tx.conn.ghost_name;
      stays : Stays {T = Unit {0}} {E = Unit {0}} old new (Ok tt);
      added : HasCleanDisk new → (l.count ≡ l.last +ℤ pos l.row-index) × Adds l.last (take l.row-index l.more) old.now new.now;
    }
