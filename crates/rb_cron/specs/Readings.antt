-- The zones of `jiff` that are readings of a rule.
use Rattle.std.specs.Prelude.{◌≡◌, ℕ, ℤ, ◌+ℤ◌, Bool, true, false, List, Option, Some, None}
use Rattle.jiff.specs.Words.{civil_nanos, offset_at}
use Rattle.jiff_core.specs.Timestamp.{nanos_of_seconds}
use Rattle.jiff_core.specs.declared.civil.datetime.DateTime.{DateTime}
use Rattle.jiff_tz.specs.Ambiguous.{instant_of}
use Rattle.jiff_tz.specs.declared.ambiguous.AmbiguousOffset.{AmbiguousOffset}
use Rattle.jiff_tz.specs.declared.ambiguous.AmbiguousOffset.TheVariants.{Unambiguous, Gap, Fold}
use Rattle.jiff_tz.specs.declared.timezone.TimeZone.{TimeZone}
use Rattle.jiff_tz.specs.declared.timezone.TimeZone.TheVariants.{UTC}
use Rattle.jiff.specs.Placed.{IsPosixZone}
use Rattle.rb_cron.specs.ZoneRules.{is_utc, is_rule}

-- the zone is the reading of a rule: UTC, or what the rule text reads as
abbrev pub IsReadingBy : Bool → List ℕ → TimeZone → Type 0
IsReadingBy true rule zone = zone ≡ UTC
IsReadingBy false rule zone = IsPosixZone rule zone

abbrev pub IsReading : List ℕ → TimeZone → Type 0
IsReading rule zone = IsReadingBy (is_utc rule) rule zone

-- the zone that is kept with a rule
pub record IsKeptZone (rule : List ℕ) (zone : TimeZone) : Type 0 where
  pub rule_is : is_rule rule ≡ true
  pub reading : IsReading rule zone

-- the instant of a civil time: the earlier one in a fold, and none in a gap
abbrev pub instant_by : AmbiguousOffset → DateTime → Option ℤ
instant_by (Unambiguous offset) civil = Some (instant_of civil offset)
instant_by (Gap before after) civil = None
instant_by (Fold before after) civil = Some (instant_of civil before)

-- the offset of the earlier instant, and none in a gap
abbrev pub earlier_offset : AmbiguousOffset → Option ℤ
earlier_offset (Unambiguous offset) = Some offset.seconds
earlier_offset (Gap before after) = None
earlier_offset (Fold before after) = Some before.seconds

-- a clock in the zone shows the civil time at a moment
abbrev pub Shows : TimeZone → ℤ → DateTime → Type 0
Shows zone moment civil =
    civil_nanos civil ≡ moment +ℤ nanos_of_seconds (offset_at zone moment)
