-- The least value of a field from one on, and the text of a field.
use Rattle.std.specs.Prelude.{◌≡◌, ℕ, ◌≤◌, ◌<◌, true, false, ◌++◌, List, Option, Some, None}
use Rattle.rb_cron.specs.Crontab.{fields_fault}
use Rattle.rb_cron.specs.Fields.{Range, runs_of, runs_meet, seconds, minute, hour, day, month, weekday, year}
use Rattle.rb_cron.specs.declared.field.Field.{Field}
use Rattle.rb_cron.specs.declared.field.Field.TheVariants.{Seconds, Minute, Hour, Day, Month, Weekday, Year}
use Rattle.rb_cron.specs.declared.fields.Fields.{Fields}
use Rattle.rb_cron.specs.declared.run.Run.{Run}

-- runs meet no value from this one on
abbrev pub NoneMetFrom : Range → Option (List Run) → ℕ → Type 0
NoneMetFrom range runs from = (v : ℕ) → from ≤ v → runs_meet range runs v ≡ false

-- the value is met, and is the least one from this one on
pub record IsLeastMet (range : Range) (runs : Option (List Run)) (from value : ℕ) : Type 0 where
  pub met : runs_meet range runs value ≡ true
  pub later : from ≤ value
  pub least : (v : ℕ) → from ≤ v → v < value → runs_meet range runs v ≡ false

-- the text of one of the fields
abbrev pub field_text : Fields → Field → List ℕ
field_text f Seconds = f.seconds
field_text f Minute = f.minute
field_text f Hour = f.hour
field_text f Day = f.day
field_text f Month = f.month
field_text f Weekday = f.weekday
field_text f Year = f.year

-- runs before those that are there
abbrev pub runs_before : List Run → Option (List Run) → Option (List Run)
runs_before runs None = None
runs_before runs (Some more) = Some (runs ++ more)

-- the runs are those of all fields, which have no fault
pub record AreFieldRuns (f : Fields) (s m h d mo w y : List Run) : Type 0 where
  pub fault : fields_fault f ≡ None
  pub seconds : runs_of seconds f.seconds ≡ Some s
  pub minute : runs_of minute f.minute ≡ Some m
  pub hour : runs_of hour f.hour ≡ Some h
  pub day : runs_of day f.day ≡ Some d
  pub month : runs_of month f.month ≡ Some mo
  pub weekday : runs_of weekday f.weekday ≡ Some w
  pub year : runs_of year f.year ≡ Some y
