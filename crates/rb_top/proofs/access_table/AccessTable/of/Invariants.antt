use Rattle.std.proofs.Common.{take}
use Rattle.rb_top.specs.Access.{policies_of}
use Rattle.rb_top.specs.Table.{Tells}
use Rattle.rb_top.proofs.access_table.AccessTable.of.Given as goal

-- the table tells what the lines so far decide
abbrev pub invariant-loop-place : goal.invariant-loop-place
invariant-loop-place l = Tells (policies_of (take l.place l.access)) l.table
