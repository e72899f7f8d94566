-- What the definition makes of a rule is what `jiff` makes of it.
use Rattle.std.proofs.Common.{◌≡◌, ℕ, ℤ, pos, ◌-ℤ◌, Bool, true, false, not, int_lt, List, Option, Some, None, option_map, if◌then◌else◌, refl, ap, sym, subst, ◌∙◌}
use Rattle.jiff.specs.Words.{offset_at as jiff_offset, ambiguous_at as jiff_offsets, civil_nanos}
use Rattle.jiff_core.specs.Timestamp.{nanos_of_seconds}
use Rattle.jiff_core.specs.declared.Offset.{Offset}
use Rattle.jiff_core.specs.declared.civil.datetime.DateTime.{DateTime}
use Rattle.jiff_tz.specs.PosixReader.{read_whole}
use Rattle.jiff_tz.specs.PosixRule as Rule
use Rattle.jiff_tz.specs.PosixText.{TzText, day_time_view, dst_view, tz_view}
use Rattle.jiff_tz.specs.Year.{year_of_nanos}
use Rattle.jiff_tz.specs.Zone.{offset_at, ambiguous_at}
use Rattle.jiff_tz.specs.declared.ambiguous.AmbiguousOffset.{AmbiguousOffset}
use Rattle.jiff_tz.specs.declared.ambiguous.AmbiguousOffset.TheVariants.{Unambiguous, Gap, Fold}
use Rattle.jiff_tz.specs.declared.posix.DayTime.{DayTime}
use Rattle.jiff_tz.specs.declared.posix.Dst.{Dst}
use Rattle.jiff_tz.specs.declared.posix.TimeZone.{TimeZone as Posix}
use Rattle.jiff_tz.specs.declared.timezone.TimeZone.{TimeZone}
use Rattle.jiff_tz.specs.declared.timezone.TimeZone.TheVariants as Kind
use Rattle.rb_cron.specs.Clock as Clock
use Rattle.rb_cron.specs.Clock.{utc, zone_of, change_in}
use Rattle.rb_cron.specs.Readings.{IsReadingBy, IsKeptZone, earlier_offset, instant_by}
use Rattle.rb_cron.specs.ZoneRules.{is_utc}

change_is : (y : ℤ) (d : DayTime) (s : ℤ) → Rule.rule_nanos y d s ≡ change_in y (day_time_view d) s
unfolding Rule.rule_nanos
change_is y d s = refl

window_is : (d : Dst) (y : ℤ) (std : Offset) → Rule.utc_window d y std ≡ Clock.utc_window std.seconds (dst_view d) y
unfolding Rule.rule_nanos Rule.utc_window
window_is d y std = refl

wall_window_is : (d : Dst) (y : ℤ) → (Rule.rule_nanos y d.rule.start (pos 0), Rule.rule_nanos y d.rule.end (pos 0)) ≡ Clock.wall_window (dst_view d) y
unfolding Rule.rule_nanos
wall_window_is d y = refl

picked : (std : Offset) (d : Dst) (b : Bool) → (Rule.match_some (if b then Some d else None) std (λ d. d.offset)).seconds ≡ (if b then d.offset.seconds else std.seconds)
picked std d true = refl
picked std d false = refl

offset_by_is : (std : Offset) (dst : Option Dst) (n : ℤ) → (Rule.match_some (Rule.dst_at_by std dst n) std (λ d. d.offset)).seconds ≡ Clock.offset_by std.seconds (option_map dst_view dst) n
offset_by_is std None n = refl
offset_by_is std (Some d) n =
    picked std d (Rule.in_window (Rule.utc_window d (year_of_nanos n) std) n)
    ∙ ap (λ w. if Rule.in_window w n then d.offset.seconds else std.seconds) (window_is d (year_of_nanos n) std)

offset_is : (tz : Posix) (n : ℤ) → (Rule.offset_at tz n).seconds ≡ Clock.offset_at (tz_view tz) n
offset_is tz n = offset_by_is tz.std_offset tz.dst n

ahead : (std dst : Offset) (b c d : Bool)
    → earlier_offset (if not b then Unambiguous std else (if c then Gap std dst else (if d then Fold dst std else Unambiguous dst)))
    ≡ (if not b then Some std.seconds else (if c then None else Some dst.seconds))
ahead std dst false c d = refl
ahead std dst true true d = refl
ahead std dst true false true = refl
ahead std dst true false false = refl

behind : (std dst : Offset) (b c d : Bool)
    → earlier_offset (if b then Unambiguous dst else (if c then Fold std dst else (if d then Gap dst std else Unambiguous std)))
    ≡ (if b then Some dst.seconds else (if c then Some std.seconds else (if d then None else Some std.seconds)))
behind std dst true c d = refl
behind std dst false true d = refl
behind std dst false false true = refl
behind std dst false false false = refl

way : (b c : Bool) (x y z : AmbiguousOffset) (u v w : Option ℤ) → earlier_offset x ≡ u → earlier_offset y ≡ v → earlier_offset z ≡ w
    → earlier_offset (if b then x else (if c then y else z)) ≡ (if b then u else (if c then v else w))
way true c x y z u v w f g h = f
way false true x y z u v w f g h = g
way false false x y z u v w f g h = h

between_is : (std dst : Offset) (w : ℤ × ℤ) (at : ℤ) → earlier_offset (Rule.ambiguous_by std dst w at) ≡ Clock.given_between std.seconds dst.seconds w at
between_is std dst w at = way (int_lt dst.seconds std.seconds) (int_lt std.seconds dst.seconds) _ _ _ _ _ _
    (behind std dst _ _ _) (ahead std dst _ _ _) refl

given_by_is : (std : Offset) (dst : Option Dst) (dt : DateTime)
    → earlier_offset (Rule.ambiguous_at_by std dst dt) ≡ Clock.offset_given std.seconds (option_map dst_view dst) dt.date.year (civil_nanos dt)
given_by_is std None dt = refl
given_by_is std (Some d) dt = between_is std d.offset (Rule.rule_nanos dt.date.year d.rule.start (pos 0), Rule.rule_nanos dt.date.year d.rule.end (pos 0)) (civil_nanos dt)
    ∙ ap (λ w. Clock.given_between std.seconds d.offset.seconds w (civil_nanos dt)) (wall_window_is d dt.date.year)

-- a zone of `jiff` whose clock is this one
pub record IsClock (zone : TimeZone) (z : TzText) : Type 0 where
  pub shown : (n : ℤ) → jiff_offset zone n ≡ Clock.offset_at z n
  pub given : (dt : DateTime) → earlier_offset (jiff_offsets zone dt) ≡ Clock.given_offset z dt.date.year (civil_nanos dt)

pub utc_is_clock : IsClock Kind.UTC utc
unfolding offset_at ambiguous_at
utc_is_clock = record { shown = λ n. refl; given = λ dt. refl }

pub posix_is_clock : (tz : Posix) → IsClock (Kind.Posix tz) (tz_view tz)
unfolding offset_at ambiguous_at
posix_is_clock tz = record { shown = offset_is tz; given = given_by_is tz.std_offset tz.dst }

abbrev pub HasClock : TimeZone → Option TzText → Type 0
HasClock zone found = (z : TzText) × (found ≡ Some z) × IsClock zone z

reading_by : (b : Bool) (rule : List ℕ) (zone : TimeZone) → IsReadingBy b rule zone
    → HasClock zone (if b then Some utc else (if true then read_whole rule else None))
reading_by true rule zone h = (utc, refl, subst (λ k. IsClock k utc) (sym h) utc_is_clock)
reading_by false rule (Kind.Posix tz) h = (tz_view tz, h, posix_is_clock tz)
reading_by false rule zone h = absurd h

-- the kept zone's clock is that of its rule
pub kept_clock : (rule : List ℕ) (zone : TimeZone) → IsKeptZone rule zone → HasClock zone (zone_of rule)
kept_clock rule zone h =
    subst (λ b. HasClock zone (if is_utc rule then Some utc else (if b then read_whole rule else None))) (sym h.rule_is)
    (reading_by (is_utc rule) rule zone h.reading)

-- the instant at an earlier offset
pub instant_is : (o : AmbiguousOffset) (dt : DateTime) (offset : ℤ) → earlier_offset o ≡ Some offset → instant_by o dt ≡ Some (civil_nanos dt -ℤ nanos_of_seconds offset)
instant_is (Unambiguous o) dt offset h = let e : o.seconds ≡ offset = cc in rw e refl
instant_is (Gap before after) dt offset h = absurd (cc)
instant_is (Fold before after) dt offset h = let e : before.seconds ≡ offset = cc in rw e refl
