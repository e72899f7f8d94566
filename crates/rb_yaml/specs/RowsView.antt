-- Rows as the code lends them.
use Rattle.std.specs.Prelude.{List, Option, Some, None}
use Rattle.std.specs.Borrow.{Bor}
use Rattle.rb_yaml.specs.Rows.{Row}

abbrev pub first_view : Option (Bor Row × Bor (List Row)) → Option (Row × List Row)
first_view None = None
first_view (Some first) = Some (first.0.now, first.1.now)

abbrev pub one_view : Option (Bor Row) → Option Row
one_view None = None
one_view (Some row) = Some row.now
