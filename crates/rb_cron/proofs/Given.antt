-- A due instant is the one that `jiff` gives for the civil time that a clock shows at it.
use Rattle.std.proofs.Common.{◌≡◌, ℕ, ℤ, pos, negsuc, neg_ℤ, ◌+ℤ◌, ◌-ℤ◌, ◌≤ℤ◌, true, ◌&&◌, ◌<◌, List, Option, Some, None, arith, refl, ap, sym, subst, ◌∙◌, nat_le}
use Rattle.std.proofs.lemmas.Bool.{and_parts}
use Rattle.std.proofs.lemmas.Bool.Decides.{nat_tests}
use Rattle.std.proofs.lemmas.Int.{ints}
use Rattle.jiff.specs.Words.{offset_at as jiff_offset, ambiguous_at as jiff_offsets, civil_nanos}
use Rattle.jiff.proofs.SpanFacts.{signed_arith}
use Rattle.jiff_core.specs.Timestamp.{nanos_of_seconds, IsOffsetSeconds}
use Rattle.jiff_core.specs.declared.civil.datetime.DateTime.{DateTime}
use Rattle.jiff_tz.specs.PosixText.{TzText}
use Rattle.jiff_tz.specs.PosixRule as Rule
use Rattle.jiff_tz.specs.Tzif as Table
use Rattle.jiff_tz.specs.Zone.{zero_in_range, offset_at as offset_in}
use Rattle.jiff_tz.specs.declared.ambiguous.AmbiguousOffset.{AmbiguousOffset}
use Rattle.jiff_tz.specs.declared.ambiguous.AmbiguousOffset.TheVariants.{Unambiguous, Gap, Fold}
use Rattle.jiff_tz.specs.declared.timezone.TimeZone.{TimeZone}
use Rattle.jiff_tz.specs.declared.timezone.TimeZone.TheVariants.{UTC, Unknown, Fixed, Posix, Tzif}
use Rattle.rb_cron.specs.Civil.{Civil, civil_of}
use Rattle.rb_cron.specs.Clock.{zone_of, given_offset}
use Rattle.rb_cron.specs.Due.{Source, is_instant, is_due, is_due_in, is_due_when, civil_at, meets, time_meets, day_meets}
use Rattle.rb_cron.specs.Fields.{in_range, runs_meet, runs_of, year}
use Rattle.rb_cron.specs.declared.run.Run.{Run}
use Rattle.rb_cron.specs.Readings.{earlier_offset, instant_by}
use Rattle.rb_cron.specs.declared.fields.Fields.{Fields}
use Rattle.rb_cron.proofs.Dates.{civil_found}
use Rattle.rb_cron.proofs.Kept.{IsClock, HasClock, instant_is}

runs_bound : (runs : Option (List Run)) (v : ℕ) → runs_meet year runs v ≡ true → v < 2200
runs_bound None v h = absurd (cc)
runs_bound (Some runs) v h =
    let inside = (and_parts (in_range year v) _ h).0 in
    let high = (and_parts (nat_le 1970 v) (nat_le v 2199) inside).1 in
    grind (arith, nat_tests, high)

-- fields are met up to 2199
pub year_bound : (f : Fields) (c : Civil) → meets f c ≡ true → c.year < 2200
year_bound f c h = runs_bound (runs_of year f.year) c.year (and_parts (time_meets f c && day_meets f c) _ h).1

-- an offset and the instant there
instant_parts : (given : Option ℤ) (civil t : ℤ) → is_instant given civil t ≡ true → (o : ℤ) × (given ≡ Some o) × (civil -ℤ o ≡ t)
instant_parts None civil t h = absurd (cc)
instant_parts (Some o) civil t h = (o, refl, grind (arith, ints, h))

given_when : (zone : TimeZone) (z : TzText) (f : Fields) (shown t : ℤ) (dt : DateTime) → IsClock zone z
    → is_due_when z f shown t ≡ true → civil_nanos dt ≡ nanos_of_seconds shown → instant_by (jiff_offsets zone dt) dt ≡ Some (nanos_of_seconds t)
given_when zone z f (pos n) t dt clock due at =
    let parts = and_parts (meets f (civil_of n)) _ due in
    let shown = civil_found dt n at (year_bound f (civil_of n) parts.0) in
    let found = instant_parts _ (pos n) t parts.1 in
    let same : given_offset z dt.date.year (civil_nanos dt) ≡ Some found.0 =
    ap (λ y. given_offset z y (civil_nanos dt)) (sym shown.year) ∙ ap (given_offset z (pos (civil_of n).year)) at ∙ found.1 in
    let back = found.2 in
    let nanos : civil_nanos dt -ℤ nanos_of_seconds found.0 ≡ nanos_of_seconds t = omega (arith, signed_arith, at, back) in
    instant_is (jiff_offsets zone dt) dt found.0 (clock.given dt ∙ same) ∙ ap Some nanos
given_when zone z f (negsuc n) t dt clock due at = absurd (cc)

shown_is : (zone : TimeZone) (z : TzText) (t : ℤ) (dt : DateTime) → IsClock zone z
    → civil_nanos dt ≡ nanos_of_seconds t +ℤ nanos_of_seconds (jiff_offset zone (nanos_of_seconds t)) → civil_nanos dt ≡ nanos_of_seconds (civil_at z t)
shown_is zone z t dt clock at =
    let same = clock.shown (nanos_of_seconds t) in
    omega (arith, signed_arith, at, same)

pub due_is_given : (source : Source) (zone : TimeZone) (t : ℤ) (dt : DateTime) → HasClock zone (zone_of source.rule) → is_due source t ≡ true
    → civil_nanos dt ≡ nanos_of_seconds t +ℤ nanos_of_seconds (jiff_offset zone (nanos_of_seconds t))
    → instant_by (jiff_offsets zone dt) dt ≡ Some (nanos_of_seconds t)
due_is_given source zone t dt has due at =
    given_when zone has.0 source.fields (civil_at has.0 t) t dt has.2 (subst (λ z. is_due_in z source.fields t ≡ true) has.1 due) (shown_is zone has.0 t dt has.2 at)

-- the offset at which a civil time has its instant
offset_of : (o : AmbiguousOffset) (dt : DateTime) (m : ℤ) → instant_by o dt ≡ Some m
    → (offset : ℤ) × (earlier_offset o ≡ Some offset)
    × (civil_nanos dt -ℤ nanos_of_seconds offset ≡ m)
offset_of (Unambiguous o) dt m h =
    let e : civil_nanos dt -ℤ nanos_of_seconds o.seconds ≡ m = cc in (o.seconds, refl, e)
offset_of (Gap before after) dt m h = absurd (cc)
offset_of (Fold before after) dt m h =
    let e : civil_nanos dt -ℤ nanos_of_seconds before.seconds ≡ m = cc in (before.seconds, refl, e)

is_instant_at : (given : Option ℤ) (civil t offset : ℤ) → given ≡ Some offset
    → civil -ℤ offset ≡ t → is_instant given civil t ≡ true
is_instant_at given civil t offset is at = rw is (grind (arith, ints, at))

due_when : (zone : TimeZone) (z : TzText) (f : Fields) (n : ℕ) (t : ℤ) (dt : DateTime)
    → IsClock zone z → civil_nanos dt ≡ nanos_of_seconds (pos n)
    → meets f (civil_of n) ≡ true
    → instant_by (jiff_offsets zone dt) dt ≡ Some (nanos_of_seconds t)
    → is_due_when z f (pos n) t ≡ true
due_when zone z f n t dt clock at met given =
    let shown = civil_found dt n at (year_bound f (civil_of n) met) in
    let found = offset_of (jiff_offsets zone dt) dt (nanos_of_seconds t) given in
    let same : given_offset z (pos (civil_of n).year) (nanos_of_seconds (pos n)) ≡ Some found.0 =
    ap (given_offset z (pos (civil_of n).year)) (sym at)
    ∙ ap (λ y. given_offset z y (civil_nanos dt)) shown.year ∙ sym (clock.given dt) ∙ found.1 in
    let there = found.2 in
    let back : pos n -ℤ found.0 ≡ t = omega (arith, signed_arith, at, there) in
    rw met (is_instant_at _ (pos n) t found.0 same back)

pub shown_is_due : (source : Source) (zone : TimeZone) (t : ℤ) (dt : DateTime) (seconds : ℕ)
    → HasClock zone (zone_of source.rule)
    → civil_nanos dt
    ≡ nanos_of_seconds t +ℤ nanos_of_seconds (jiff_offset zone (nanos_of_seconds t))
    → civil_nanos dt ≡ nanos_of_seconds (pos seconds)
    → meets source.fields (civil_of seconds) ≡ true
    → instant_by (jiff_offsets zone dt) dt ≡ Some (nanos_of_seconds t) → is_due source t ≡ true
shown_is_due source zone t dt seconds has shows at met given =
    let shown = shown_is zone has.0 t dt has.2 shows in
    let same : civil_at has.0 t ≡ pos seconds = omega (arith, signed_arith, at, shown) in
    subst (λ z. is_due_in z source.fields t ≡ true) (sym has.1)
    (subst (λ s. is_due_when has.0 source.fields s t ≡ true) (sym same)
    (due_when zone has.0 source.fields seconds t dt has.2 at met given))

offset_in_range : (zone : TimeZone) (n : ℤ) → IsOffsetSeconds (offset_in zone n)
unfolding offset_in
offset_in_range UTC n = zero_in_range
offset_in_range Unknown n = zero_in_range
offset_in_range (Fixed offset) n = offset.in_range
offset_in_range (Posix tz) n = (Rule.offset_at tz n).in_range
offset_in_range (Tzif z) n = (Table.offset_at z.now n).in_range

not_early : (zone : TimeZone) (z : TzText) (f : Fields) (t shown : ℤ) → IsClock zone z → civil_at z t ≡ shown
    → is_due_when z f shown t ≡ true → neg_ℤ (pos 93_599) ≤ℤ t
not_early zone z f t (pos n) clock at due =
    let same = clock.shown (nanos_of_seconds t) in
    let range = offset_in_range zone (nanos_of_seconds t) in
    omega (arith, signed_arith, at, same, range)
not_early zone z f t (negsuc n) clock at due = absurd (cc)

pub due_is_near : (source : Source) (zone : TimeZone) (t : ℤ) → HasClock zone (zone_of source.rule) → is_due source t ≡ true → neg_ℤ (pos 93_599) ≤ℤ t
due_is_near source zone t has due =
    not_early zone has.0 source.fields t _ has.2 refl (subst (λ z. is_due_in z source.fields t ≡ true) has.1 due)
