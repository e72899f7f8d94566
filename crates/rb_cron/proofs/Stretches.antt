-- A piece of time, from what the kept zone's clock shows at its beginning.
use Rattle.std.proofs.Common.{◌≡◌, ℕ, zero, suc, ◌+◌, ◌-◌, ◌/◌, ◌≤◌, ◌<◌, ℤ, pos, negsuc, ◌+ℤ◌, ◌≤ℤ◌, ◌<ℤ◌, Bool, true, false, nat_lt, Option, Some, None, if◌then◌else◌, option_map, List, arith, refl, ap, sym, subst, ◌∙◌, inl, inr, to_z, of_z, w32, w64}
use Rattle.std.specs.Prelude.{IfSome}
use Rattle.std.specs.Option.{option_eq}
use Rattle.std.specs.Ordering.{int_eq}
use Rattle.jiff_tz.specs.PosixReader.{read_whole}
use Rattle.rb_cron.specs.ZoneRules.{is_utc}
use Rattle.std.proofs.lemmas.Bool.Decides.{nat_tests}
use Rattle.jiff.specs.Words.{offset_at as jiff_offset, ambiguous_at as jiff_offsets, civil_nanos}
use Rattle.jiff.proofs.SpanFacts.{signed_arith}
use Rattle.jiff_core.specs.Calendar.{days_in_year, day_count}
use Rattle.jiff_core.specs.Timestamp.{nanos_of_seconds, IsOffsetSeconds}
use Rattle.jiff_core.specs.declared.civil.datetime.DateTime.{DateTime}
use Rattle.jiff_core.proofs.CalendarLemmas.{day_count-next_year, day_count-later_year, days_from_civil-day_count, day_count-epoch}
use Rattle.jiff_tz.specs.PosixText.{TzText, DstText, dst_view, tz_view}
use Rattle.jiff_tz.specs.declared.posix.Dst.{Dst}
use Rattle.jiff_tz.specs.declared.posix.TimeZone.{TimeZone as Posix}
use Rattle.jiff_tz.specs.declared.timezone.TimeZone.{TimeZone}
use Rattle.jiff_tz.specs.declared.timezone.TimeZone.TheVariants as Kind
use Rattle.jiff_tz.proofs.YearLemmas.{year_of_nanos-civil}
use Rattle.jiff_tz.specs.Year.{year_of_nanos}
use Rattle.rb_cron.specs.Civil.{civil_of, year_and_day}
use Rattle.rb_cron.specs.Clock.{utc, zone_of, offset_by, given_offset, offset_given}
use Rattle.rb_cron.specs.Pieces.{IsInYear, IsSteadyTo, IsPiece, HasPiece, is_this_offset, clock_of}
use Rattle.rb_cron.specs.Readings.{earlier_offset, IsReadingBy, IsKeptZone}
use Rattle.rb_cron.specs.declared.piece.Piece.{Piece}
use Rattle.rb_cron.proofs.Edges.{year_of_second}
use Rattle.rb_cron.proofs.Kept.{IsClock, utc_is_clock, posix_is_clock}
use Rattle.rb_cron.proofs.Least.{order_of}
use Rattle.rb_cron.proofs.Years.{year_at}

-- what lies behind so many years is given the year behind them
past_step : (y years days : ℕ) (low : Bool) (next : ℕ × ℕ) → nat_lt days (days_in_year (pos y)) ≡ low
    → day_count (pos (y + suc years)) 1 1 ≤ day_count (pos y) 1 1 + days
    → (days_in_year (pos y) ≤ days → y + suc years ≤ next.0) → y + suc years ≤ (if low then (y, days) else next).0
past_step y years days true next test past later =
    let short : days < days_in_year (pos y) = grind (arith, nat_tests, test) in
    let after = day_count-later_year (pos y) (pos (y + suc years)) (omega (arith, signed_arith)) (omega (arith, signed_arith)) in
    absurd (omega (arith, past, short, after))
past_step y years days false next test past later = later (grind (arith, nat_tests, test))

pub years_past : (years y days : ℕ) → day_count (pos (y + years)) 1 1 ≤ day_count (pos y) 1 1 + days → y + years ≤ (year_and_day years y days).0
years_past zero y days past = omega arith
years_past (suc years) y days past = past_step y years days _ _ refl past
    (λ long.
    let next = day_count-next_year (pos y) (pos (suc y)) (omega (arith, signed_arith)) (omega (arith, signed_arith)) in
    let same : suc y + years ≡ y + suc years = omega arith in
    let at = ap (λ k. day_count (pos k) 1 1) same in
    let found = years_past years (suc y) (days - days_in_year (pos y)) (omega (arith, past, long, next, at)) in
    omega (arith, found))

days_of_second : (y : ℤ) (n : ℕ) → IsInYear y (pos n)
    → (day_count y 1 1 ≤ day_count (pos 1970) 1 1 + n / 86_400) × (day_count (pos 1970) 1 1 + n / 86_400 < day_count y 1 1 + days_in_year y)
days_of_second y n at =
    let from = at.from in let before = at.before in
    let count = days_from_civil-day_count y 1 1 in
    (omega (arith, signed_arith, from, count, day_count-epoch), omega (arith, signed_arith, before, count, day_count-epoch))

later_or_same : (y k : ℕ) → y ≤ k → day_count (pos y) 1 1 ≤ day_count (pos k) 1 1
later_or_same y k up = elim (order_of (pos k) (pos y)) [
  | inl down ↦ let same : y ≡ k = omega (arith, signed_arith, down, up) in let e = ap (λ n. day_count (pos n) 1 1) same in omega (arith, e)
  | inr less ↦ let after = day_count-later_year (pos y) (pos k) (omega (arith, signed_arith)) less in omega (arith, after)
]

-- a second from 1970 on lies in no year before
not_early_year : (y : ℤ) (n : ℕ) → IsInYear y (pos n) → y <ℤ pos 1970 → ⊥
not_early_year y n at less =
    let days = days_of_second y n at in
    let year = at.year_in in
    let after = day_count-later_year y (pos 1970) (omega (arith, signed_arith, year)) less in
    omega (arith, days, after)

natural : (y : ℤ) (n : ℕ) → IsInYear y (pos n) → (k : ℕ) × (pos k ≡ y) × (1970 ≤ k)
natural (pos k) n at = elim (order_of (pos 1970) (pos k)) [
  | inl up ↦ (k, refl, omega (arith, signed_arith, up))
  | inr less ↦ absurd (not_early_year (pos k) n at less)
]
natural (negsuc k) n at = absurd (not_early_year (negsuc k) n at (omega (arith, signed_arith)))

year_by : (k n : ℕ) → IsInYear (pos k) (pos n) → 1970 ≤ k → (civil_of n).year < 2200 → (civil_of n).year ≡ k
year_by k n at up low = let days = days_of_second (pos k) n at in elim (order_of (pos 2200) (pos k)) [
  | inr less ↦ year_at 230 1970 k (n / 86_400) up (omega (arith, signed_arith, less)) days.0 days.1
  | inl late ↦
      let year = at.year_in in
      let mono : day_count (pos 2200) 1 1 ≤ day_count (pos k) 1 1 = later_or_same 2200 k (omega (arith, signed_arith, late)) in
      let past = years_past 230 1970 (n / 86_400) (omega (arith, days.0, mono)) in
      absurd (omega (arith, past, low))
]

-- what a clock shows has the year in which it lies
pub civil_year : (y : ℤ) (n : ℕ) → IsInYear y (pos n) → (civil_of n).year < 2200 → pos (civil_of n).year ≡ y
civil_year y n at low =
    let k = natural y n at in
    ap pos (year_by k.0 n (subst (λ z. IsInYear z (pos n)) (sym k.1) at) k.2 low) ∙ k.1

-- a kept zone's clock is one
clock_is : (zone : TimeZone) (z : TzText) → clock_of zone ≡ Some z → IsClock zone z
clock_is Kind.UTC z h = let e : utc ≡ z = cc in subst (IsClock Kind.UTC) e utc_is_clock
clock_is (Kind.Posix tz) z h = let e : tz_view tz ≡ z = cc in subst (IsClock (Kind.Posix tz)) e (posix_is_clock tz)
clock_is zone z h = absurd (cc)

-- what is steady makes a piece
piece_by : (std : ℤ) (dst : Option DstText) (a o end : ℤ) (y : ℤ) (agrees : Bool) → offset_by std dst (nanos_of_seconds a) ≡ o
    → ((x : ℤ) → IsInYear x (a +ℤ o) → x ≡ y) → is_this_offset (offset_given std dst y (nanos_of_seconds (a +ℤ o))) o ≡ agrees → IsSteadyTo std dst o a end
    → ((t : ℤ) → a ≤ℤ t → t <ℤ end → offset_by std dst (nanos_of_seconds t) ≡ o)
    × ((t : ℤ) (n : ℕ) → a ≤ℤ t → t <ℤ end → t +ℤ o ≡ pos n → (civil_of n).year < 2200
    → is_this_offset (offset_given std dst (pos (civil_of n).year) (nanos_of_seconds (pos n))) o ≡ agrees)
piece_by std None a o end y agrees shown one given steady = ((λ t up less. shown), (λ t n up less at low. given))
piece_by std (Some summer) a o end y agrees shown one given steady = (
  (λ t up less. sym (steady.0 t up less) ∙ shown),
  (λ t n up less at low.
      let g = steady.1 t up less in
      let in_t : IsInYear g.year (pos n) = subst (IsInYear g.year) at g.at_t in
      let same_year : pos (civil_of n).year ≡ y = civil_year g.year n in_t low ∙ one g.year g.at_a in
      ap (λ k. is_this_offset (offset_given std (Some summer) k (nanos_of_seconds (pos n))) o) (same_year ∙ sym (one g.year g.at_a))
      ∙ ap (λ c. is_this_offset (offset_given std (Some summer) g.year (nanos_of_seconds c)) o) (sym at)
      ∙ ap (λ q. is_this_offset q o) (sym g.same)
      ∙ ap (λ k. is_this_offset (offset_given std (Some summer) k (nanos_of_seconds (a +ℤ o))) o) (one g.year g.at_a) ∙ given),
)

pub piece_is : (zone : TimeZone) (z : TzText) (a : ℤ) (piece : Piece) (dt : DateTime) → clock_of zone ≡ Some z
    → piece.offset ≡ jiff_offset zone (nanos_of_seconds a)
    → civil_nanos dt ≡ nanos_of_seconds a +ℤ nanos_of_seconds (jiff_offset zone (nanos_of_seconds a))
    → piece.agrees ≡ is_this_offset (earlier_offset (jiff_offsets zone dt)) piece.offset
    → IsSteadyTo z.std_seconds z.dst piece.offset a piece.end → IsPiece z a piece
piece_is zone z a piece dt is offset shown agrees steady =
    let clock = clock_is zone z is in
    let at : civil_nanos dt ≡ nanos_of_seconds (a +ℤ piece.offset) = omega (arith, signed_arith, shown, offset) in
    let year : dt.date.year ≡ year_of_nanos (nanos_of_seconds (a +ℤ piece.offset)) = year_of_nanos-civil dt (nanos_of_seconds (a +ℤ piece.offset)) at in
    let parts = piece_by z.std_seconds z.dst a piece.offset piece.end dt.date.year piece.agrees
    (sym (clock.shown (nanos_of_seconds a)) ∙ sym offset)
    (λ x in_x. sym (year ∙ year_of_second x (a +ℤ piece.offset) in_x))
    (ap (λ m. is_this_offset (given_offset z dt.date.year m) piece.offset) (sym at) ∙ ap (λ q. is_this_offset q piece.offset) (sym (clock.given dt)) ∙ sym agrees)
    steady in
    record { shown = parts.0; given = parts.1 }

pub all_pieces : (zone : TimeZone) (a : ℤ) (piece : Piece) (dt : DateTime)
    → piece.offset ≡ jiff_offset zone (nanos_of_seconds a)
    → civil_nanos dt ≡ nanos_of_seconds a +ℤ nanos_of_seconds (jiff_offset zone (nanos_of_seconds a))
    → piece.agrees ≡ is_this_offset (earlier_offset (jiff_offsets zone dt)) piece.offset
    → (found : Option TzText) → clock_of zone ≡ found → IfSome found (λ z. IsSteadyTo z.std_seconds z.dst piece.offset a piece.end) → IfSome found (λ z. IsPiece z a piece)
all_pieces zone a piece dt offset shown agrees None is steady = steady
all_pieces zone a piece dt offset shown agrees (Some z) is steady = piece_is zone z a piece dt is offset shown agrees steady

-- without summer time there is nothing to change
pub steady_without : (zone : TimeZone) (tz : Posix) (o a e : ℤ) → zone ≡ Kind.Posix tz → tz.dst ≡ None
    → IfSome (clock_of zone) (λ z. IsSteadyTo z.std_seconds z.dst o a e)
steady_without zone tz o a e is none =
    subst (λ k. IfSome (clock_of k) (λ z. IsSteadyTo z.std_seconds z.dst o a e)) (sym is)
    (subst (λ d. IsSteadyTo tz.std_offset.seconds (option_map dst_view d) o a e) (sym none) tt)

pub steady_in_utc : (zone : TimeZone) (o a e : ℤ) → zone ≡ Kind.UTC → IfSome (clock_of zone) (λ z. IsSteadyTo z.std_seconds z.dst o a e)
steady_in_utc zone o a e is = subst (λ k. IfSome (clock_of k) (λ z. IsSteadyTo z.std_seconds z.dst o a e)) (sym is) tt

pub steady_with : (zone : TimeZone) (tz : Posix) (d : Dst) (std o a e std' o' a' e' : ℤ) → zone ≡ Kind.Posix tz → tz.dst ≡ Some d
    → std' ≡ tz.std_offset.seconds → o' ≡ o → a' ≡ a → e' ≡ e → IsSteadyTo std' (Some (dst_view d)) o' a' e'
    → IfSome (clock_of zone) (λ z. IsSteadyTo z.std_seconds z.dst o a e)
steady_with zone tz d std o a e std' o' a' e' is some e1 e2 e3 e4 h =
    subst (λ k. IfSome (clock_of k) (λ z. IsSteadyTo z.std_seconds z.dst o a e)) (sym is)
    (subst (λ q. IsSteadyTo tz.std_offset.seconds (option_map dst_view q) o a e) (sym some)
    (subst (λ k. IsSteadyTo k (Some (dst_view d)) o a e) e1
    (subst (λ k. IsSteadyTo std' (Some (dst_view d)) k a e) e2
    (subst (λ k. IsSteadyTo std' (Some (dst_view d)) o' k e) e3
    (subst (λ k. IsSteadyTo std' (Some (dst_view d)) o' a' k) e4 h)))))

option_given : (g : Option ℤ) (o : ℤ) → option_eq int_eq g (Some o) ≡ is_this_offset g o
option_given None o = refl
option_given (Some x) o = refl

-- the code's test says whether the zone gives the offset
pub agrees_is : (b : Bool) (g h : Option ℤ) (o : ℤ) → b ≡ option_eq int_eq g (Some o) → g ≡ h → b ≡ is_this_offset h o
agrees_is b g h o is same = is ∙ ap (λ k. option_eq int_eq k (Some o)) same ∙ option_given h o

pub steady_back : (found : Option TzText) (o a e o' a' e' : ℤ) → o' ≡ o → a' ≡ a → e' ≡ e
    → IfSome found (λ z. IsSteadyTo z.std_seconds z.dst o' a' e') → IfSome found (λ z. IsSteadyTo z.std_seconds z.dst o a e)
steady_back found o a e o' a' e' e1 e2 e3 h =
    subst (λ k. IfSome found (λ z. IsSteadyTo z.std_seconds z.dst k a e)) e1
    (subst (λ k. IfSome found (λ z. IsSteadyTo z.std_seconds z.dst o' k e)) e2
    (subst (λ k. IfSome found (λ z. IsSteadyTo z.std_seconds z.dst o' a' k)) e3 h))

pub offset_cast : (x : ℤ) → IsOffsetSeconds x → to_z w64 (of_z w64 (to_z w32 (of_z w32 x))) ≡ x
offset_cast x h = omega (arith, signed_arith, h)

-- the clock of a kept zone is that of its rule
kept_by : (b : Bool) (rule : List ℕ) (zone : TimeZone) → IsReadingBy b rule zone
    → (z : TzText) × ((if b then Some utc else (if true then read_whole rule else None)) ≡ Some z) × (clock_of zone ≡ Some z)
kept_by true rule zone h = (utc, refl, ap clock_of h)
kept_by false rule (Kind.Posix tz) h = (tz_view tz, h, refl)
kept_by false rule zone h = absurd h

pub kept_zone : (rule : List ℕ) (zone : TimeZone) → IsKeptZone rule zone → (z : TzText) × (zone_of rule ≡ Some z) × (clock_of zone ≡ Some z)
kept_zone rule zone h =
    subst (λ b. (z : TzText) × ((if is_utc rule then Some utc else (if b then read_whole rule else None)) ≡ Some z) × (clock_of zone ≡ Some z)) (sym h.rule_is)
    (kept_by (is_utc rule) rule zone h.reading)

pub has_piece : (rule now : List ℕ) (zone : TimeZone) (a b : ℤ) (piece : Piece) → rule ≡ now → IsKeptZone rule zone → b ≡ a
    → IfSome (clock_of zone) (λ z. IsPiece z b piece) → HasPiece (zone_of now) a piece
has_piece rule now zone a b piece same kept at h =
    let k = kept_zone rule zone kept in
    (k.0, ap zone_of (sym same) ∙ k.1, subst (λ x. IsPiece k.0 x piece) at (subst (λ o. IfSome o (λ z. IsPiece z b piece)) k.2 h))
