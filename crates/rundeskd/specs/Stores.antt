-- What a store shows of its keeper.
use Rattle.std.specs.Prelude.{ℕ, List, Option, Some, None}
use Rattle.rb_causes.specs.declared.row.Row.{Row}
use Rattle.rundeskd.specs.declared.store.Store.{Store}
use Rattle.rundeskd.specs.declared.store.Store.TheVariants.{Memory, File}

-- the rows of a store in memory; those of a file are not told
abbrev pub store_rows : Store → Option (List Row)
store_rows (Memory keeper) = Some keeper.rows.items
store_rows (File faults) = None

-- the faults that were counted; in memory there are none
abbrev pub store_faults : Store → ℕ
store_faults (Memory keeper) = 0
store_faults (File faults) = faults
