use Rattle.rb_tables.specs.Tables.{IsTabled}
use Rattle.rb_desk.proofs.BadRows.{first_rows}
use Rattle.rb_desk.proofs.following.tables_of.Given as goal

-- the tables are those of the rows so far
abbrev pub invariant-loop-place : goal.invariant-loop-place
invariant-loop-place l = IsTabled l.tables (first_rows l.rows l.place)
