-- What is read of a literal, as the code holds it.
use Rattle.std.specs.Prelude.{ℕ, List, String, string_bytes}
use Rattle.std.specs.Borrow.{Bor}
use Rattle.std.specs.declared.alloc.Global.{Global}
use Rattle.rb_yaml.specs.Rows.{Row}

abbrev pub rows_view : String Global × Bor (List Row) → List ℕ × List Row
rows_view read = (string_bytes read.0, read.1.now)
