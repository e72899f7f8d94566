-- Where the rows of a session's log come from.
use Rattle.std.specs.Prelude.{
  ◌≡◌,
  ◌+◌,
  ◌-◌,
  ℕ,
  List,
  [],
  ◌∷◌,
  ◌++◌,
  length,
  All,
  Option,
  Some,
  None,
}
use Rattle.std.specs.List.{flat_map}
use Rattle.rb_causes.specs.Numbers.{numbers_from}
use Rattle.rb_causes.specs.declared.row.Row.{Row}
use Rattle.rb_door.specs.Doors.{AreInOrder}
use Rattle.rb_door.specs.Exchanges.{Moments}
use Rattle.rb_log.specs.Records.{IsTrueRecord, Record}
use Rattle.rb_log.specs.Told.{added}
use Rattle.rb_session.specs.Courses.{Course, course_records}
use Rattle.rb_session_top.specs.Sessions.{Headline}
use Rattle.rb_session_top.specs.Sights.{DeskSight, Sight}
use Rattle.rb_session_top.specs.Stories.{Deeds}
use Rattle.rb_tables.specs.Tables.{most_rows}

-- the course, and the Save behind it
abbrev pub records_and_save : Option (Course × Record) → List Record
records_and_save None = []
records_and_save (Some done) = course_records done.0 ++ done.1 ∷ []

-- all that the desk was asked behind its opening, in order: the imports; and unless one of them
-- ended the session, the pumps, the requests, the end of the door and the Save
abbrev pub deed_records : Deeds → List Record
deed_records deeds = deeds.imports ++ records_and_save deeds.course

-- The rows of the log behind the first ones are, in order, those of these records: none is missing
-- and none has two. Each record is true of the log, comes behind the one before it, and has one row
-- or none.
pub record AreAllRows (log : List Row) (first : ℕ) (records : List Record) : Type 0 where
  pub each : All (IsTrueRecord log most_rows) records
  pub order : AreInOrder first records
  pub rows : flat_map added records ≡ numbers_from (first + 1) (length log - first)

-- The rows behind the opening are those of what the desk was asked, and nobody else added any.
abbrev pub RowsAreAsked : Moments → Type 0
RowsAreAsked may_be =
    (name : List ℕ) (draw : ℕ) (old new : Sight) (desk : DeskSight) (deeds : Deeds)
    (headline : Headline may_be name draw old new desk deeds)
    → AreAllRows desk.log (length headline.opened.log) (deed_records deeds)
