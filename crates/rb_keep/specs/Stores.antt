-- What a store in memory shows.
use Rattle.std.specs.Prelude.{◌≡◌, ℕ, ℤ, pos, Bool, false, List, length, codes, IsTrue}
use Rattle.std.specs.List.{list_any}
use Rattle.sqlite.specs.Held.{Held, state}
use Rattle.sqlite.specs.Steps.{over_memory}
use Rattle.sqlite_trees.specs.declared.memory.MemStore.{MemStore}
use Rattle.sqlite_schema.specs.Names.{same_name}
use Rattle.sqlite_schema.specs.declared.schema.Schema.{Schema}
use Rattle.rb_causes.specs.declared.row.Row.{Row}
use Rattle.rb_keep.specs.Tables.{Stores, rows_of}

-- the faults that were counted, whether there is a table for the number of the format, and the rows
pub record StoreState : Type 0 where
  pub faults : ℕ
  pub shaped : Bool
  pub rows : List Row

-- a table has the name `shape`
abbrev pub has_shape : Schema → Bool
has_shape schema = list_any (λ table. same_name table.name (codes "shape")) schema.tables

-- between calls a connection is open, in no transaction, and holds a log of so many rows
pub record IsKept (conn : Held MemStore) (last : ℤ) : Type 0 where
  pub open_still : IsTrue (state over_memory conn).is_open
  pub idle : conn.in_transaction ≡ false
  pub held : Stores (state over_memory conn).now (rows_of (state over_memory conn).now)
  pub count : last ≡ pos (length (rows_of (state over_memory conn).now))
