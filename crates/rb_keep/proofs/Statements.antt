-- What the statements of a store say, over the schemas that a store may have.
use Rattle.std.proofs.Common.{◌≡◌, ℕ, pos, negsuc, List, [], ◌∷◌, codes, false, None, Ok, refl}
use Rattle.sqlite.specs.declared.types.Value.TheVariants.{Null, Int}
use Rattle.sqlite.specs.Command.TheVariants.{Insert, Select, CreateTable, Nothing}
use Rattle.sqlite.specs.Source.TheVariants.{Values}
use Rattle.sqlite.specs.Compile.{table_defined_by}
use Rattle.sqlite.specs.Listing.{understood, reads_listing}
use Rattle.sqlite.specs.Query.{Query, inner, end}
use Rattle.sqlite.specs.Schema.{Schema}
use Rattle.sqlite.specs.Term.{Term, lit, col}
use Rattle.sqlite.proofs.Callers.{IsPlain, command_of, statement_of}
use Rattle.sqlite_value.specs.declared.keys.Collation.TheVariants.{Binary}
use Rattle.sqlite_tied.specs.Compute.{everything}
use Rattle.rb_keep.specs.Tables.{entries, shape_at, of_tables, First, Second, tables_of}

abbrev pub make_entries : List ℕ
make_entries = codes "CREATE TABLE IF NOT EXISTS entries (seq INTEGER PRIMARY KEY, kind INTEGER NOT NULL, at INTEGER NOT NULL, a INTEGER NOT NULL, b INTEGER NOT NULL, c INTEGER NOT NULL, name BLOB NOT NULL, who BLOB NOT NULL, body BLOB NOT NULL)"

abbrev pub make_shape : List ℕ
make_shape = codes "CREATE TABLE IF NOT EXISTS shape (id INTEGER PRIMARY KEY CHECK (id = 1), number INTEGER NOT NULL)"

abbrev pub read_shape : List ℕ
read_shape = codes "SELECT number FROM shape"

abbrev pub write_shape : List ℕ
write_shape = codes "INSERT INTO shape (id, number) VALUES (1, 2)"

abbrev pub insert : List ℕ
insert = codes "INSERT INTO entries (seq, kind, at, a, b, c, name, who, body) VALUES (?1, ?2, ?3, ?4, ?5, ?6, ?7, ?8, ?9)"

abbrev pub select : List ℕ
select = codes "SELECT seq, kind, at, a, b, c, name, who, body FROM entries ORDER BY seq"

abbrev pub bare : Schema
bare = of_tables []

abbrev pub first : Schema
first = of_tables (tables_of First)

abbrev pub second : Schema
second = of_tables (tables_of Second)

abbrev pub shape_terms : List Term
shape_terms = lit (Int (pos 1)) ∷ lit Null ∷ lit (Int (pos 2)) ∷ []

abbrev pub entry_terms : List Term
entry_terms = col 0 0 ∷ lit Null ∷ col 0 1 ∷ col 0 2 ∷ col 0 3 ∷ col 0 4 ∷ col 0 5 ∷ col 0 6 ∷ col 0 7 ∷ col 0 8 ∷ []

abbrev pub shape_query : Query
shape_query = record {
  from = inner 1 end;
  filter = [];
  group = None;
  project = col 1 2 ∷ [];
  distinct = false;
  collations = [];
  order = [];
  limit = lit (Int (negsuc 0));
  offset = lit (Int (pos 0));
}

abbrev pub entries_query : Query
entries_query = record {
  from = inner 0 end;
  filter = [];
  group = None;
  project = col 1 0 ∷ col 1 2 ∷ col 1 3 ∷ col 1 4 ∷ col 1 5 ∷ col 1 6 ∷ col 1 7 ∷ col 1 8 ∷ col 1 9 ∷ [];
  distinct = false;
  collations = [];
  order = (col 1 0, record { collation = Binary; descending = false }) ∷ [];
  limit = lit (Int (negsuc 0));
  offset = lit (Int (pos 0));
}

pub entries_made : (command_of (understood bare make_entries) ≡ CreateTable) × (statement_of make_entries (understood bare make_entries) ≡ make_entries) × (table_defined_by make_entries ≡ Ok entries)
unfolding understood everything
entries_made = (refl, refl, refl)

pub entries_plain : IsPlain (understood bare make_entries)
unfolding understood everything
entries_plain = (refl, refl)

pub entries_stand : command_of (understood first make_entries) ≡ Nothing
unfolding understood everything
entries_stand = refl

pub entries_stand_plain : IsPlain (understood first make_entries)
unfolding understood everything
entries_stand_plain = (refl, refl)

pub both_stand : (command_of (understood second make_entries) ≡ Nothing) × (command_of (understood second make_shape) ≡ Nothing)
unfolding understood everything
both_stand = (refl, refl)

pub both_stand_plain : IsPlain (understood second make_entries) × IsPlain (understood second make_shape)
unfolding understood everything
both_stand_plain = ((refl, refl), (refl, refl))

pub shape_made : (command_of (understood first make_shape) ≡ CreateTable) × (statement_of make_shape (understood first make_shape) ≡ make_shape)
unfolding understood everything
shape_made = (refl, refl)

pub shape_defined : table_defined_by make_shape ≡ Ok (shape_at 0)
unfolding understood everything
shape_defined = refl

pub shape_plain : IsPlain (understood first make_shape)
unfolding understood everything
shape_plain = (refl, refl)

pub shape_read : (command_of (understood second read_shape) ≡ Select (record { lets = []; body = shape_query }) (codes "number" ∷ [])) × (reads_listing second read_shape ≡ false)
unfolding understood everything
shape_read = (refl, refl)

pub shape_read_plain : IsPlain (understood second read_shape)
unfolding understood everything
shape_read_plain = (refl, refl)

pub shape_written : command_of (understood second write_shape) ≡ Insert 1 (Values shape_terms 3)
unfolding understood everything
shape_written = refl

pub shape_written_plain : IsPlain (understood second write_shape)
unfolding understood everything
shape_written_plain = (refl, refl)

pub entry_inserted : command_of (understood second insert) ≡ Insert 0 (Values entry_terms 10)
unfolding understood everything
entry_inserted = refl

pub entry_inserted_plain : IsPlain (understood second insert)
unfolding understood everything
entry_inserted_plain = (refl, refl)

pub entries_read : (command_of (understood second select) ≡ Select (record { lets = []; body = entries_query }) (codes "seq" ∷ codes "kind" ∷ codes "at" ∷ codes "a" ∷ codes "b" ∷ codes "c" ∷ codes "name" ∷ codes "who" ∷ codes "body" ∷ [])) × (reads_listing second select ≡ false)
unfolding understood everything
entries_read = (refl, refl)

pub entries_read_plain : IsPlain (understood second select)
unfolding understood everything
entries_read_plain = (refl, refl)

pub first_inserted : (command_of (understood first insert) ≡ Insert 0 (Values entry_terms 10)) × IsPlain (understood first insert)
unfolding understood everything
first_inserted = (refl, (refl, refl))
