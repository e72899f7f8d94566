-- The programs of a session are those of its log.
use Rattle.std.specs.Prelude.{
  ◌≡◌,
  ◌<◌,
  ◌+◌,
  ◌-◌,
  ℕ,
  true,
  List,
  length,
  slice_get,
  Contains,
  Some,
}
use Rattle.rb_causes.specs.Numbers.{numbers_from}
use Rattle.rb_causes.specs.Outside.{gained}
use Rattle.rb_causes.specs.declared.row.Row.{Row}
use Rattle.rb_door.specs.Exchanges.{Moments}
use Rattle.rb_log.specs.Programs.{programs_at}
use Rattle.rb_log.specs.Records.{Record}
use Rattle.rb_log.specs.Steps.{is_row_of}
use Rattle.rb_session_laws.specs.Origins.{deed_records}
use Rattle.rb_session_top.specs.Sessions.{Headline}
use Rattle.rb_session_top.specs.Sights.{DeskSight, Sight}
use Rattle.rb_session_top.specs.Stories.{Deeds}

-- Each row behind the opening is of a kind that the call of its record adds: a Begin comes of a
-- claim alone, an Accept of a run or a tick, the rows of imports of imports, and so on.
abbrev pub RowsAreOfKinds : Moments → Type 0
RowsAreOfKinds may_be =
    (name : List ℕ) (draw : ℕ) (old new : Sight) (desk : DeskSight) (deeds : Deeds)
    (headline : Headline may_be name draw old new desk deeds) (r : Record) (row : Row)
    → Contains (deed_records deeds) r → r.before < r.after
    → slice_get desk.log (r.after - 1) ≡ Some row → is_row_of r.call row ≡ true

-- What the spawner gained are the programs of all Begin rows behind the opening, in their order,
-- each with how it ended: nothing else was started, and nothing that was begun was left out.
abbrev pub ProgramsAreBegun : Moments → Type 0
ProgramsAreBegun may_be =
    (name : List ℕ) (draw : ℕ) (old new : Sight) (desk : DeskSight) (deeds : Deeds)
    (headline : Headline may_be name draw old new desk deeds)
    → new.spawner.runs
    ≡ gained old.spawner.runs
    (programs_at desk.log
    (numbers_from (length headline.opened.log + 1)
    (length desk.log - length headline.opened.log)))
