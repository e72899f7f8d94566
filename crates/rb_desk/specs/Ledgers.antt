-- A log with its keeper.
use Rattle.std.specs.Prelude.{◌≡◌, ◌≤◌, ℕ, List, length, take, Option, IfSome}
use Rattle.rb_causes.specs.declared.row.Row.{Row}

-- the keeper, the log, how many rows of it the keeper holds, and for how many more there is memory
pub record LedgerState (K : Type 0) : Type 0 where
  pub keeper : K
  pub log : List Row
  pub saved : ℕ
  pub spare : ℕ

-- The keeper holds the first rows of the log.
pub record IsLedger {K : Type 0} (rows : K → Option (List Row)) (l : LedgerState K) : Type 0 where
  pub saved : l.saved ≤ length l.log
  pub kept : IfSome (rows l.keeper) (λ held. held ≡ take l.saved l.log)
