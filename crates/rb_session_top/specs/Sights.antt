-- What a session looks at, as its objects tell it, before and after.
use Rattle.std.specs.Prelude.{ℕ, ◌+◌, List, [], length, map, reverse, Option, Result, Ok, Err}
use Rattle.rb_causes.specs.Callers.{Callers}
use Rattle.rb_causes.specs.Sinks.{SinkState}
use Rattle.rb_causes.specs.Spawners.{ShownRuns}
use Rattle.rb_causes.specs.declared.row.Row.{Row}
use Rattle.rb_desk.specs.DeskState.{DeskState}
use Rattle.rb_log.specs.Legal.{rights_of}
use Rattle.rb_log.specs.LogState.{log_state}
use Rattle.rb_log.specs.Sums.{numbers_below}
use Rattle.rb_log.specs.Told.{Told}
use Rattle.rb_session.specs.Fetching.{ShelfSight}

-- the callers and the line's count of faults
pub record CallersSight : Type 0 where
  pub callers : Option Callers
  pub faults : ℕ

-- the rows that are kept and the keeper's count
pub record KeptSight : Type 0 where
  pub rows : Option (List Row)
  pub faults : ℕ

abbrev pub kept_rows : KeptSight → Option (List Row)
kept_rows kept = kept.rows

abbrev pub kept_faults : KeptSight → ℕ
kept_faults kept = kept.faults

-- all that a session looks at
pub record Sight : Type 0 where
  pub shelf : ShelfSight
  pub line : CallersSight
  pub spawner : ShownRuns
  pub kept : KeptSight
  pub sink : SinkState

abbrev pub callers_sight : Option Callers → ℕ → CallersSight
callers_sight callers faults = record { callers = callers; faults = faults }

abbrev pub kept_sight : Option (List Row) → ℕ → KeptSight
kept_sight rows faults = record { rows = rows; faults = faults }

abbrev pub sights : ShelfSight → CallersSight → ShownRuns → KeptSight → SinkState → Sight
sights shelf line spawner kept sink =
    record { shelf = shelf; line = line; spawner = spawner; kept = kept; sink = sink }

-- the log of a desk that is given back, how many of its rows are kept, and its room
pub record DeskSight : Type 0 where
  pub log : List Row
  pub saved : ℕ
  pub room : ℕ

-- what is given back: a desk, or the keeper alone
pub data Given : Type 0 where
  GivesDesk : DeskSight → Given
  GivesKeeper : Given

abbrev pub desk_sight : {K : Type 0} → DeskState K → DeskSight
desk_sight d = record { log = d.log; saved = d.saved; room = d.room }

abbrev pub given_of : {K : Type 0} → Result (DeskState K) K → Given
given_of (Ok d) = GivesDesk (desk_sight d)
given_of (Err keeper) = GivesKeeper

-- the keeper that is given back, with the desk or alone
abbrev pub keeper_of : {K : Type 0} → Result (DeskState K) K → K
keeper_of (Ok d) = d.keeper
keeper_of (Err keeper) = keeper

-- what a desk tells, with its keeper's count of faults: all its rows are its own
abbrev pub desk_told : DeskSight → ℕ → Told
desk_told d faults = record {
  log = d.log;
  room = d.room;
  faults = faults;
  rights = rights_of (log_state (reverse d.log));
  own = map (λ n. n + 1) (numbers_below (length d.log));
  who = [];
}
