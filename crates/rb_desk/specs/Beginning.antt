-- How a desk begins behind the rows that its keeper holds.
use Rattle.std.specs.Prelude.{◌≡◌, ◌≤◌, ◌+◌, ℕ, ℤ, true, false, List, [], ◌∷◌, ◌++◌, length, reverse}
use Rattle.rb_causes.specs.Causes.{Rose}
use Rattle.rb_causes.specs.declared.row.Row.{Row}
use Rattle.rb_causes.specs.declared.trouble.Trouble.{Trouble}
use Rattle.rb_causes.specs.declared.trouble.Trouble.TheVariants.{Failed, NoMemory as Wanting}
use Rattle.rb_log.specs.Rows.{opened_row}
use Rattle.rb_log.specs.LogState.{log_state, moment_by}
use Rattle.rb_log.specs.Legal.{MayCome}
use Rattle.rb_log.specs.Sums.{numbers_below}
use Rattle.rb_tables.specs.Tables.{IsTabled, most_rows}
use Rattle.rb_tables.specs.declared.tables.Tables.{Tables}
use Rattle.rb_changes.specs.Openings.{IsOpeningOf}
use Rattle.rb_changes.specs.declared.opening.Opening.{Opening}
use Rattle.rb_desk.specs.DeskState.{DeskState}
use Rattle.rb_desk.specs.Ledgers.{LedgerState}
use Rattle.rb_desk.specs.Opening.{IsBadStore, IsGoodStore, OpeningAsked, has_room_to_open, opening_row}
use Rattle.rb_desk.specs.declared.open_err.OpenErr.{OpenErr}
use Rattle.rb_desk.specs.declared.open_err.OpenErr.TheVariants.{StoreFault, BadStore, Full, NoMemory}

-- the row of an opening with a second check
abbrev pub row_of : Opening → Row
row_of o = opened_row o.at (length o.doors.items) o.workers o.draw

-- What is asked of an opening behind the log of the tables.
pub record IsNextOpening (t : Tables) (doors workers draw : ℕ) (at : ℤ) (o : Opening)
    : Type 0 where
  pub at_is : o.at ≡ moment_by t.last at
  pub doors_are : o.doors.items ≡ numbers_below doors
  pub workers_are : o.workers ≡ workers
  pub draw_is : o.draw ≡ draw
  pub checks : o.checks ≡ true

-- The tables are those of the log; the opening may come behind it, and there is room for it and for
-- a Close of each door.
pub record MayBegin (log : List Row) (t : Tables) (o : Opening) (room : ℕ) : Type 0 where
  pub tabled : IsTabled t (reverse log)
  pub is : IsOpeningOf o (row_of o)
  pub may : MayCome (log_state (reverse log)) (row_of o)
  pub within : length log + 1 + length o.doors.items ≤ room
  pub bounded : room ≤ most_rows

-- So may the opening that is asked for.
pub record IsReady (log : List Row) (asked : OpeningAsked) (t : Tables) (o : Opening)
    : Type 0 where
  pub may : MayBegin log t o asked.room
  pub row : row_of o ≡ opening_row log asked

-- why nothing begins behind these rows
abbrev pub IsUnready : List Row → OpeningAsked → OpenErr → Type 0
IsUnready log asked StoreFault = ⊥
IsUnready log asked (BadStore n) = IsBadStore log n
IsUnready log asked Full = IsGoodStore log × (has_room_to_open log asked ≡ false)
IsUnready log asked NoMemory = Unit {0}

-- The log is that of the keeper with the opening, and all of it is kept.
pub record HasBegun {K : Type 0} (l : LedgerState K) (o : Opening) (room : ℕ) (d : DeskState K)
    : Type 0 where
  pub log : d.log ≡ l.log ++ row_of o ∷ []
  pub saved : d.saved ≡ length d.log
  pub room_is : d.room ≡ room

-- what a trouble of the keeper is at an opening
abbrev pub opening_err : Trouble → OpenErr
opening_err Failed = StoreFault
opening_err Wanting = NoMemory

-- why it did not begin
abbrev pub IsBeginCause : {K : Type 0} → (K → ℕ) → K → K → OpenErr → Type 0
IsBeginCause faults old new StoreFault = Rose (faults old) (faults new)
IsBeginCause faults old new (BadStore n) = ⊥
IsBeginCause faults old new Full = ⊥
IsBeginCause faults old new NoMemory = Unit {0}
