-- Civil times by days and times of day, for a search that goes from day to day.
use Rattle.std.specs.Prelude.{◌≡◌, ℕ, ◌+◌, ◌/◌, ◌%◌, ◌≤◌, ◌<◌, Bool, true, false, ◌&&◌}
use Rattle.rb_cron.specs.Civil.{Civil, civil_of, civil_in, year_and_day}
use Rattle.rb_cron.specs.Due.{meets, time_meets, day_meets}
use Rattle.rb_cron.specs.Fields.{field_has, seconds, minute, day, month, weekday, year}
use Rattle.rb_cron.specs.declared.fields.Fields.{Fields}

-- the civil time so many seconds after the midnight that begins a day
abbrev pub in_day : ℕ → ℕ → Civil
in_day k s = civil_in (year_and_day 230 1970 k) ((k + 4) % 7 + 1) s

-- the date of a day meets the fields, whatever the time of day
abbrev pub date_meets : Fields → ℕ → Bool
date_meets f k = day_meets f (in_day k 0) && field_has year f.year (in_day k 0).year

-- no civil time from one on and before another meets the fields
abbrev pub NoneMeet : Fields → ℕ → ℕ → Type 0
NoneMeet f from end = (c : ℕ) → from ≤ c → c < end → meets f (civil_of c) ≡ false

-- the civil time meets the fields, and is the least one from another on and before an end
pub record IsNextCivil (f : Fields) (from end found : ℕ) : Type 0 where
  pub met : meets f (civil_of found) ≡ true
  pub later : from ≤ found
  pub before : found < end
  pub least : NoneMeet f from found

-- no second of a day from one on and before another passes
abbrev pub NonePass : (ℕ → Bool) → ℕ → ℕ → Type 0
NonePass passes from end = (s : ℕ) → from ≤ s → s < end → passes s ≡ false

-- the least second from one on that passes, below an end
pub record IsFirstPass (passes : ℕ → Bool) (from end found : ℕ) : Type 0 where
  pub met : passes found ≡ true
  pub later : from ≤ found
  pub before : found < end
  pub least : NonePass passes from found

-- a second of an hour meets the fields of minutes and seconds
abbrev pub in_hour_meets : Fields → ℕ → Bool
in_hour_meets f s = field_has seconds f.seconds (s % 60) && field_has minute f.minute (s / 60)

-- a second of a day meets the fields of times
abbrev pub in_day_meets : Fields → ℕ → Bool
in_day_meets f s = time_meets f (in_day 0 s)

-- a date by its parts meets the fields of days, months and years
abbrev pub meets_date : Fields → ℕ → ℕ → ℕ → ℕ → Bool
meets_date f y m d w =
    (field_has day f.day d && field_has month f.month m && field_has weekday f.weekday w)
    && field_has year f.year y
