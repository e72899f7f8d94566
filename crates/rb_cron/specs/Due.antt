-- Whether an instant is due. Instants and civil times are seconds since 1970.
use Rattle.std.specs.Prelude.{◌≡◌, ℕ, ℤ, pos, negsuc, ◌+ℤ◌, ◌-ℤ◌, ◌≤ℤ◌, Bool, true, false, ◌&&◌, List, Option, Some, None}
use Rattle.std.specs.Ordering.{int_eq}
use Rattle.jiff_core.specs.Timestamp.{nanos_of_seconds}
use Rattle.jiff_tz.specs.PosixText.{TzText}
use Rattle.rb_cron.specs.Fields.{field_has, seconds, minute, hour, day, month, weekday, year}
use Rattle.rb_cron.specs.Civil.{Civil, civil_of}
use Rattle.rb_cron.specs.Clock.{zone_of, offset_at, given_offset}
use Rattle.rb_cron.specs.declared.fields.Fields.{Fields}

-- what a schedule was read of: the texts of its fields and its zone rule
pub record Source : Type 0 where
  pub fields : Fields
  pub rule : List ℕ

-- a time of day meets the fields that speak of it
abbrev pub time_meets : Fields → Civil → Bool
time_meets f c =
    field_has seconds f.seconds c.second
    && field_has minute f.minute c.minute
    && field_has hour f.hour c.hour

-- a date meets the fields that speak of days and months
abbrev pub day_meets : Fields → Civil → Bool
day_meets f c =
    field_has day f.day c.day
    && field_has month f.month c.month
    && field_has weekday f.weekday c.weekday

-- a civil time meets all fields
abbrev pub meets : Fields → Civil → Bool
meets f c = time_meets f c && day_meets f c && field_has year f.year c.year

-- the instant of a civil time at this offset, if there is one, is this one
abbrev pub is_instant : Option ℤ → ℤ → ℤ → Bool
is_instant None civil t = false
is_instant (Some offset) civil t = int_eq (civil -ℤ offset) t

-- the zone gives this instant for a civil time of this year
abbrev pub gives : TzText → ℕ → ℤ → ℤ → Bool
gives zone y civil t =
    is_instant (given_offset zone (pos y) (nanos_of_seconds civil)) civil t

-- the clock shows this civil time at the instant, which meets the fields and gives it back; before
-- 1970 none does
abbrev pub is_due_when : TzText → Fields → ℤ → ℤ → Bool
is_due_when zone f (pos civil) t =
    meets f (civil_of civil) && gives zone (civil_of civil).year (pos civil) t
is_due_when zone f (negsuc n) t = false

-- the civil time that a clock shows at an instant
abbrev pub civil_at : TzText → ℤ → ℤ
civil_at zone t = t +ℤ offset_at zone (nanos_of_seconds t)

abbrev pub is_due_in : Option TzText → Fields → ℤ → Bool
is_due_in None f t = false
is_due_in (Some zone) f t = is_due_when zone f (civil_at zone t) t

-- the instant is due
abbrev pub is_due : Source → ℤ → Bool
is_due source t = is_due_in (zone_of source.rule) source.fields t

-- no instant before this one is due under a rule, whatever the fields
abbrev pub IsFirstFor : List ℕ → ℤ → Type 0
IsFirstFor rule first = (f : Fields) (t : ℤ) →
    is_due (record { fields = f; rule = rule }) t ≡ true → first ≤ℤ t
