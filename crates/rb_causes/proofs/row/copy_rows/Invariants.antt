use Rattle.std.proofs.Common.{◌≡◌, ◌++◌, drop}
use Rattle.rb_causes.proofs.row.copy_rows.Given as goal

-- the copies so far, with the rows that are left, are all
abbrev pub invariant-loop-row : goal.invariant-loop-row
invariant-loop-row l = l.copies.items ++ drop l.row-index l.rows ≡ l.rows
