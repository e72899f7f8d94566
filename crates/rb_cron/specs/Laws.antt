-- What due instants are beyond the rules that say which they are.
use Rattle.std.specs.Prelude.{◌≡◌, ℕ, ℤ, pos, neg_ℤ, ◌≤ℤ◌, ◌<ℤ◌, true, Option, Some}
use Rattle.jiff.specs.Words.{ambiguous_at, civil_nanos}
use Rattle.jiff_core.specs.Timestamp.{nanos_of_seconds}
use Rattle.jiff_core.specs.declared.civil.datetime.DateTime.{DateTime}
use Rattle.jiff_tz.specs.PosixText.{TzText}
use Rattle.jiff_tz.specs.declared.timezone.TimeZone.{TimeZone}
use Rattle.rb_cron.specs.Civil.{civil_of}
use Rattle.rb_cron.specs.Clock.{zone_of}
use Rattle.rb_cron.specs.Due.{Source, is_due, civil_at, meets}
use Rattle.rb_cron.specs.Next.{IsLeastDue, next_due, last_instant}
use Rattle.rb_cron.specs.Readings.{IsKeptZone, instant_by, Shows}

-- the function gives the least due instant, and no other answer is it
abbrev pub NextIsLeast : Type 0
NextIsLeast = (source : Source) (after : ℤ) → IsLeastDue source after (next_due source after)

abbrev pub NextIsOne : Type 0
NextIsOne = (source : Source) (after : ℤ) (found : Option ℤ) →
    IsLeastDue source after found → found ≡ next_due source after

-- a due instant is never passed over
abbrev pub NoneIsPassedOver : Type 0
NoneIsPassedOver = (source : Source) (after u : ℤ) →
    is_due source u ≡ true → after <ℤ u → u ≤ℤ last_instant →
    (t : ℤ) × (next_due source after ≡ Some t) × (t ≤ℤ u)

-- answers ascend
abbrev pub AnswersAscend : Type 0
AnswersAscend = (source : Source) (after t : ℤ) → next_due source after ≡ Some t → after <ℤ t

-- of two equal civil times one alone is due
abbrev pub DueOnceInAFold : Type 0
DueOnceInAFold = (source : Source) (zone : TzText) (t u : ℤ) → zone_of source.rule ≡ Some zone →
    is_due source t ≡ true → is_due source u ≡ true → civil_at zone t ≡ civil_at zone u → t ≡ u

-- What a clock of the kept zone shows at a due instant has this instant in the zone: so it lies in
-- no gap, and of two instants that show it this is the earlier one.
abbrev pub DueIsGiven : Type 0
DueIsGiven = (source : Source) (zone : TimeZone) (t : ℤ) (civil : DateTime) →
    IsKeptZone source.rule zone → is_due source t ≡ true →
    Shows zone (nanos_of_seconds t) civil →
    instant_by (ambiguous_at zone civil) civil ≡ Some (nanos_of_seconds t)

-- And the other way round: what a clock of the kept zone shows at an instant, so many seconds after
-- 1970 began, meets the fields and has this instant in the zone, so the instant is due.
abbrev pub ShownIsDue : Type 0
ShownIsDue = (source : Source) (zone : TimeZone) (t : ℤ) (civil : DateTime) (seconds : ℕ) →
    IsKeptZone source.rule zone → Shows zone (nanos_of_seconds t) civil →
    civil_nanos civil ≡ nanos_of_seconds (pos seconds) →
    meets source.fields (civil_of seconds) ≡ true →
    instant_by (ambiguous_at zone civil) civil ≡ Some (nanos_of_seconds t) →
    is_due source t ≡ true

-- no instant is due that lies more than an offset before 1970
abbrev pub DueIsNear : Type 0
DueIsNear = (source : Source) (zone : TimeZone) (t : ℤ) → IsKeptZone source.rule zone →
    is_due source t ≡ true → neg_ℤ (pos 93_599) ≤ℤ t
