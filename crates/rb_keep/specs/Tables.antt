-- The tables of a store, and the rows of a log in them.
use Rattle.std.specs.Prelude.{◌≡◌, ◌⊎◌, ◌+◌, ◌++◌, ℕ, ℤ, pos, true, false, List, [], ◌∷◌, map, length, drop, codes, Option, None, Some}
use Rattle.sqlite.specs.declared.types.Value.{Value}
use Rattle.sqlite.specs.declared.types.Value.TheVariants.{Null, Int, Blob}
use Rattle.sqlite.specs.Collation.TheVariants.{Binary}
use Rattle.sqlite.specs.Effect.{Database}
use Rattle.sqlite.specs.Kind.{Kind}
use Rattle.sqlite.specs.Kind.TheVariants.{Integer, Any}
use Rattle.sqlite.specs.Order.{Row as Stored, column}
use Rattle.sqlite.specs.Schema.{Schema}
use Rattle.sqlite.specs.Table.{Table}
use Rattle.sqlite.specs.Tree.{Trees}
use Rattle.sqlite.specs.Term.{Term, lit, col, op2}
use Rattle.sqlite_schema.specs.declared.schema.Column.{Column}
use Rattle.sqlite_sql.specs.declared.ops.BinaryOp.TheVariants.{Compare}
use Rattle.sqlite_sql.specs.declared.ops.CompareOp.TheVariants.{Eq}
use Rattle.rb_causes.specs.declared.row.Row.{Row}

-- a column that takes no NULL
abbrev pub filled : List ℕ → Kind → Column
filled name kind = record {
  name = name;
  kind = kind;
  is_strict = false;
  not_null = true;
  default = Null;
  collation = Binary;
}

-- the column that is the number of the row
abbrev pub numbering : List ℕ → Column
numbering name = record {
  name = name;
  kind = Integer;
  is_strict = false;
  not_null = false;
  default = Null;
  collation = Binary;
}

-- a table whose first column numbers its rows
abbrev pub numbered_table : List ℕ → ℕ → List Column → List Term → Table
numbered_table name tree columns checks = record {
  name = name;
  tree = tree;
  columns = columns;
  key = Some 0;
  primary = 0 ∷ [];
  uniques = [];
  orders = [];
  checks = checks;
  references = [];
  computed = [];
  stamps = record { places = []; terms = []; formats = [] };
  is_counted = false;
}

-- the table of the rows of the log
abbrev pub entries : Table
entries = numbered_table (codes "entries") 0
    (numbering (codes "seq")
    ∷ filled (codes "kind") Integer ∷ filled (codes "at") Integer
    ∷ filled (codes "a") Integer ∷ filled (codes "b") Integer ∷ filled (codes "c") Integer
    ∷ filled (codes "name") Any ∷ filled (codes "who") Any ∷ filled (codes "body") Any ∷ [])
    []

-- the table of the number of the format, at this tree
abbrev pub shape_at : ℕ → Table
shape_at tree = numbered_table (codes "shape") tree
    (numbering (codes "id") ∷ filled (codes "number") Integer ∷ [])
    (op2 (Compare Eq Binary) (col 1 0) (lit (Int (pos 1))) ∷ [])

-- the schema of these tables alone
abbrev pub of_tables : List Table → Schema
of_tables tables = record { tables = tables; indexes = []; views = [] }

-- a row of the log under its number, as the table holds it
abbrev pub stored : ℕ → Row → Stored
stored seq row =
    Int (pos seq) ∷ Null ∷ Int (pos row.kind) ∷ Int row.at ∷ Int (pos row.a) ∷ Int (pos row.b)
    ∷ Int (pos row.c) ∷ Blob row.name ∷ Blob row.who ∷ Blob row.body ∷ []

-- rows of the log as the table holds them, numbered from here on without a gap
abbrev pub stored_from : ℕ → List Row → List Stored
stored_from seq [] = []
stored_from seq (row ∷ rows) = stored seq row ∷ stored_from (seq + 1) rows

-- a row of the log with these numbers as an insert is given it
abbrev pub given_with : ℤ → ℤ → ℤ → ℤ → Row → Stored
given_with seq a b c row =
    Int seq ∷ Int (pos row.kind) ∷ Int row.at ∷ Int a ∷ Int b ∷ Int c
    ∷ Blob row.name ∷ Blob row.who ∷ Blob row.body ∷ []

-- a row of the log under this number as an insert is given it, and as the table shows it
abbrev pub given_by : ℤ → Row → Stored
given_by seq row = given_with seq (pos row.a) (pos row.b) (pos row.c) row

-- the row of `shape`
abbrev pub format_2 : Stored
format_2 = Int (pos 1) ∷ Null ∷ Int (pos 2) ∷ []

-- the formats of a store
pub data Format : Type 0 where
  First : Format
  Second : Format

-- the tables of a store of the format
abbrev pub tables_of : Format → List Table
tables_of First = entries ∷ []
tables_of Second = entries ∷ shape_at 1 ∷ []

-- the number of the format stands where it has to
abbrev pub IsShaped : Format → Database → Type 0
IsShaped First db = Unit {0}
IsShaped Second db = db.trees 1 ≡ format_2 ∷ []

-- a store of this format holds the log
pub record Holds (format : Format) (db : Database) (log : List Row) : Type 0 where
  pub schema : db.schema ≡ of_tables (tables_of format)
  pub rows : db.trees 0 ≡ stored_from 1 log
  pub shaped : IsShaped format db

-- a store that was never written to, or of either format, holds the log
abbrev pub Stores : Database → List Row → Type 0
Stores db log =
    ((db.schema ≡ of_tables []) × (log ≡ [])) ⊎ (Holds First db log ⊎ Holds Second db log)

-- where the log that is held has so many rows, these are put behind it
abbrev pub Adds : ℤ → List Row → Database → Database → Type 0
Adds last rows old new =
    (format : Format) (log : List Row) → last ≡ pos (length log) → Holds format old log
    → Holds format new (log ++ rows)

-- the tables of the second format, in which no number stands yet
pub record IsUnnumbered (db : Database) (log : List Row) : Type 0 where
  pub schema : db.schema ≡ of_tables (tables_of Second)
  pub rows : db.trees 0 ≡ stored_from 1 log
  pub unnumbered : db.trees 1 ≡ []

-- the table of the rows is made, where there is none, and holds what it held
abbrev pub Makes : Database → Database → Type 0
Makes old new = (log : List Row) → Stores old log → Holds First new log ⊎ Holds Second new log

-- the table of the number is made, where there is none
abbrev pub Shapes : Database → Database → Type 0
Shapes old new =
    (log : List Row) → Holds First old log ⊎ Holds Second old log
    → IsUnnumbered new log ⊎ Holds Second new log

-- the number of the format is read, where it stands
abbrev pub Numbers : Database → Database → Option ℤ → Type 0
Numbers old new number =
    (log : List Row) → IsUnnumbered old log ⊎ Holds Second old log
    → ((number ≡ None) × IsUnnumbered new log) ⊎ ((number ≡ Some (pos 2)) × Holds Second new log)

-- what a value says as a number from 0, as a number, and as bytes
abbrev pub nat_in : Value → ℕ
nat_in (Int (pos n)) = n
nat_in _ = 0

abbrev pub int_in : Value → ℤ
int_in (Int n) = n
int_in _ = pos 0

abbrev pub bytes_in : Value → List ℕ
bytes_in (Blob bytes) = bytes
bytes_in _ = []

-- the row of a log that a query shows
abbrev pub row_in : Stored → Row
row_in shown = record {
  kind = nat_in (column shown 1);
  at = int_in (column shown 2);
  a = nat_in (column shown 3);
  b = nat_in (column shown 4);
  c = nat_in (column shown 5);
  name = bytes_in (column shown 6);
  who = bytes_in (column shown 7);
  body = bytes_in (column shown 8);
}

-- the row of a log that the table of the rows holds
abbrev pub row_held : Stored → Row
row_held held = row_in (column held 0 ∷ drop 2 held)

-- the rows of the first table, and none where there is no table
abbrev pub rows_within : List Table → Trees → List Row
rows_within [] trees = []
rows_within (table ∷ tables) trees = map row_held (trees table.tree)

abbrev pub rows_of : Database → List Row
rows_of db = rows_within db.schema.tables db.trees
