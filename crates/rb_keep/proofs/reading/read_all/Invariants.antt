use Rattle.std.proofs.Common.{◌≡◌, ◌++◌, drop, map}
use Rattle.rb_keep.specs.Tables.{row_in}
use Rattle.rb_keep.proofs.reading.read_all.Given as goal

-- the rows so far, with those that are left, are all
abbrev pub invariant-loop-row : goal.invariant-loop-row
invariant-loop-row l = l.rows.items ++ map row_in (drop l.row-index l.stored) ≡ map row_in l.stored
