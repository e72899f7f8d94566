-- What contracts see of a desk, and what holds of each.
use Rattle.std.specs.Prelude.{◌≡◌, ◌≤◌, ◌<◌, ◌+◌, ◌++◌, ℕ, Bool, true, ◌||◌, List, length, take, drop, reverse, Option, IfSome}
use Rattle.std.specs.List.{list_all}
use Rattle.rb_causes.specs.declared.row.Row.{Row}
use Rattle.rb_log.specs.Rows.{is_end, is_close}
use Rattle.rb_log.specs.LogState.{log_state, owed}
use Rattle.rb_log.specs.Legal.{IsLegalLog}
use Rattle.rb_tables.specs.Tables.{most_rows}

-- its keeper, its log, how many rows of it the keeper holds, and its room
pub record DeskState (K : Type 0) : Type 0 where
  pub keeper : K
  pub log : List Row
  pub saved : ℕ
  pub room : ℕ

-- an End or a Close, which may wait for the next append
abbrev pub may_wait : Row → Bool
may_wait row = is_end row || is_close row

-- Kept rows of a log: its first rows, and each row behind them may wait.
pub record AreKept (log held : List Row) : Type 0 where
  pub behind : List Row
  pub prefix : log ≡ held ++ behind
  pub waiting : list_all may_wait behind ≡ true

-- The log is legal and begins with an opening; it and what it owes are within the room. The keeper
-- holds the first rows of it, and those that it does not hold may wait.
pub record IsDesk {K : Type 0} (rows : K → Option (List Row)) (d : DeskState K) : Type 0 where
  pub legal : IsLegalLog (reverse d.log)
  pub opened : 0 < length d.log
  pub within : length d.log + owed (log_state (reverse d.log)) ≤ d.room
  pub bounded : d.room ≤ most_rows
  pub saved : d.saved ≤ length d.log
  pub kept : IfSome (rows d.keeper) (λ held. held ≡ take d.saved d.log)
  pub waiting : list_all may_wait (drop d.saved d.log) ≡ true
