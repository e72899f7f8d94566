-- The seconds that the code takes for edges, and what holds between them.
use Rattle.std.proofs.Common.{◌≡◌, ◌≤◌, ℤ, pos, neg_ℤ, ◌+ℤ◌, ◌-ℤ◌, ◌*ℤ◌, ◌≤ℤ◌, ◌<ℤ◌, Bool, true, false, ◌&&◌, int_lt, Some, None, if◌then◌else◌, arith, refl, ap, sym, subst, ◌∙◌, inl, inr, to_z, of_z, w64}
use Rattle.std.specs.Prelude.{◌⊎◌}
use Rattle.std.specs.Int.{int_div_euclid}
use Rattle.jiff.proofs.SpanFacts.{signed_arith}
use Rattle.jiff_core.specs.Calendar.{IsYear, IsBetween, days_in_year, day_count}
use Rattle.jiff_core.specs.Date.{epoch_day}
use Rattle.jiff_core.specs.Timestamp.{nanos_of_seconds, IsOffsetSeconds}
use Rattle.jiff_core.specs.declared.civil.date.Date.{Date}
use Rattle.jiff_core.proofs.CalendarLemmas.{day_count-next_year, day_count-later_year, day_count-day_of_year, day_of_year_bound, days_from_civil-day_count, day_count-end, days_in_year_bounds}
use Rattle.jiff_core.proofs.DateLemmas.{civil}
use Rattle.jiff_tz.specs.PosixRule.{first_day, first_nanosecond, last_nanosecond, nanos_per_day, clamp_to, rule_day, match_some, int_same, saturating_add, saturating_sub}
use Rattle.jiff_tz.specs.PosixText.{DstText}
use Rattle.jiff_tz.specs.Year.{year_of_nanos}
use Rattle.jiff_tz.specs.declared.posix.Day.{Day}
use Rattle.rb_cron.specs.Clock.{change_in, leaves, offset_by}
use Rattle.rb_cron.specs.Pieces.{IsInYear, IsYearOf, IsCeiling, IsNear, IsNearer, IsNearest, IsEdge, AreEdges, IsGiven, IsGivenTo}
use Rattle.rb_cron.specs.declared.piece.Edges.{Edges}
use Rattle.rb_cron.specs.declared.piece.Year.{Year}
use Rattle.rb_cron.proofs.PieceEnds.{beside_seconds, within, shift_is_sum, shift_is_difference}
use Rattle.rb_cron.proofs.Pieces.{Beside, lt_yes, lt_no, shift_of, offset_same, given_same}
use Rattle.rb_cron.proofs.Least.{order_of}
use Rattle.rb_cron.proofs.Years.{moment_year}

-- the next year begins where this one ends
pub next_first : (y next : ℤ) → IsYear y → next ≡ y +ℤ pos 1 → first_day next ≡ first_day y +ℤ pos (days_in_year y)
next_first y next year is =
    let more = day_count-next_year y next (omega (arith, signed_arith, year)) is in
    omega (arith, signed_arith, more, days_from_civil-day_count y 1 1, days_from_civil-day_count next 1 1)

-- a second lies in the year of its date
pub in_its_year : (d : Date) (second : ℤ) → epoch_day d ≡ int_div_euclid second (pos 86_400) → IsInYear d.year second
in_its_year d second at =
    let date = civil d in
    let place = day_count-day_of_year d.year d.month d.day date.2.0 in
    let bound = day_of_year_bound d.year d.month d.day date in
    let here = days_from_civil-day_count d.year d.month d.day in
    let first = days_from_civil-day_count d.year 1 1 in
    record {
      year_in = date.0;
      from = omega (arith, signed_arith, at, place, bound, here, first);
      before = omega (arith, signed_arith, at, place, bound, here, first);
    }

-- the bounds of such a year
pub year_bounds : (y second : ℤ) → IsInYear y second → neg_ℤ (pos 187_198) ≤ℤ second → second ≤ℤ pos 7_258_211_999
    → (neg_ℤ (pos 40_000_000) ≤ℤ (first_day y *ℤ pos 86_400)) × (((first_day y +ℤ pos (days_in_year y)) *ℤ pos 86_400) ≤ℤ pos 7_300_000_000)
year_bounds y second at low high =
    let size = days_in_year_bounds y in
    (omega (arith, signed_arith, at.before, size, low), omega (arith, signed_arith, at.from, size, high))

last_years : 7_000_000 ≤ day_count (pos 9998) 1 1
last_years =
    let a = day_count-next_year (pos 9998) (pos 9999) (omega (arith, signed_arith)) (omega (arith, signed_arith)) in
    let b = day_count-next_year (pos 9999) (pos 10000) (omega (arith, signed_arith)) (omega (arith, signed_arith)) in
    omega (arith, a, b, day_count-end, days_in_year_bounds (pos 9998), days_in_year_bounds (pos 9999))

-- such a year is not the last of the calendar
pub year_high : (y second : ℤ) → IsInYear y second → second ≤ℤ pos 7_258_211_999 → y <ℤ pos 9999
year_high y second at high = elim (order_of (pos 9999) y) [
  | inl late ↦
      let count = days_from_civil-day_count y 1 1 in
      let from = at.from in
      let before = day_count-later_year (pos 9998) y (omega (arith, signed_arith)) (omega (arith, signed_arith, late)) in
      absurd (omega (arith, signed_arith, count, from, before, last_years, high))
  | inr less ↦ less
]

ceil_of : (A B a b : ℤ) → A ≡ a → B ≡ b → a ≤ℤ nanos_of_seconds b → (nanos_of_seconds b -ℤ pos 1_000_000_000) <ℤ a → IsCeiling A B
ceil_of A B a b e g low high = record {
  reached = omega (arith, signed_arith, e, g, low);
  first = omega (arith, signed_arith, e, g, high);
}

clamp_low : (low high n : ℤ) → n <ℤ low → clamp_to low high n ≡ low
clamp_low low high n h = ap (λ b. if b then low else (if int_lt high n then high else n)) (lt_yes n low h)

clamp_high : (low high n : ℤ) → low ≤ℤ n → high <ℤ n → clamp_to low high n ≡ high
clamp_high low high n h g =
    ap (λ b. if b then low else (if int_lt high n then high else n)) (lt_no n low h) ∙ ap (λ b. if b then high else n) (lt_yes high n g)

-- a moment that is kept within a year has its second, which is kept within the year and its end
ceiling : (f n s : ℤ) → f ≤ℤ n
    → IsCeiling (clamp_to (f *ℤ pos 1_000_000_000) (n *ℤ pos 1_000_000_000 -ℤ pos 1) (s *ℤ pos 1_000_000_000)) (clamp_to f n s)
ceiling f n s order =
    let low : ℤ = f *ℤ pos 1_000_000_000 in
    let high : ℤ = n *ℤ pos 1_000_000_000 -ℤ pos 1 in
    let at_s : ℤ = s *ℤ pos 1_000_000_000 in
    elim (order_of f s) [
      | inr below ↦ ceil_of (clamp_to low high at_s) (clamp_to f n s) low f
          (clamp_low low high at_s (omega (arith, signed_arith, below))) (clamp_low f n s below)
          (omega (arith, signed_arith)) (omega (arith, signed_arith))
      | inl at ↦ elim (order_of n s) [
        | inr less ↦ ceil_of (clamp_to low high at_s) (clamp_to f n s) at_s s
            (within low high at_s (omega (arith, signed_arith, at)) (omega (arith, signed_arith, less)))
            (within f n s at (omega (arith, signed_arith, less))) (omega (arith, signed_arith)) (omega (arith, signed_arith))
        | inl over ↦ elim (order_of s n) [
          | inl same ↦ ceil_of (clamp_to low high at_s) (clamp_to f n s) high s
              (clamp_high low high at_s (omega (arith, signed_arith, at)) (omega (arith, signed_arith, over)))
              (within f n s at same) (omega (arith, signed_arith, over)) (omega (arith, signed_arith, same))
          | inr above ↦ ceil_of (clamp_to low high at_s) (clamp_to f n s) high n
              (clamp_high low high at_s (omega (arith, signed_arith, at)) (omega (arith, signed_arith, over)))
              (clamp_high f n s at above) (omega (arith, signed_arith)) (omega (arith, signed_arith))
        ]
      ]
    ]

clamp_same : (a b c x y z : ℤ) → a ≡ x → b ≡ y → c ≡ z → clamp_to a b c ≡ clamp_to x y z
clamp_same a b c x y z e g h = ap (λ k. clamp_to k b c) e ∙ ap (λ k. clamp_to x k c) g ∙ ap (clamp_to x y) h

-- the second at which a change falls in a year
pub change_second : (y first next day off : ℤ) (change : Day × ℤ) → first ≤ℤ next
    → first ≡ first_day y *ℤ pos 86_400 → next ≡ (first_day y +ℤ pos (days_in_year y)) *ℤ pos 86_400 → rule_day y change.0 ≡ Some day
    → IsCeiling (change_in y change off) (clamp_to first next (day *ℤ pos 86_400 +ℤ (change.1 -ℤ off)))
change_second y first next day off change order is_first is_next found =
    let low : first_nanosecond y ≡ first *ℤ pos 1_000_000_000 = omega (arith, signed_arith, is_first) in
    let high : last_nanosecond y ≡ next *ℤ pos 1_000_000_000 -ℤ pos 1 = omega (arith, signed_arith, is_next) in
    let at : day *ℤ nanos_per_day +ℤ nanos_of_seconds (change.1 -ℤ off) ≡ (day *ℤ pos 86_400 +ℤ (change.1 -ℤ off)) *ℤ pos 1_000_000_000 = omega (arith, signed_arith) in
    let is : change_in y change off ≡ clamp_to (first *ℤ pos 1_000_000_000) (next *ℤ pos 1_000_000_000 -ℤ pos 1) ((day *ℤ pos 86_400 +ℤ (change.1 -ℤ off)) *ℤ pos 1_000_000_000) =
    ap (λ o. match_some o (last_nanosecond y) (λ day. clamp_to (first_nanosecond y) (last_nanosecond y) (day *ℤ nanos_per_day +ℤ nanos_of_seconds (change.1 -ℤ off)))) found
    ∙ clamp_same _ _ _ _ _ _ low high at in
    subst (λ k. IsCeiling k (clamp_to first next (day *ℤ pos 86_400 +ℤ (change.1 -ℤ off)))) (sym is) (ceiling first next _ order)

-- a day that the year lacks is its end
pub change_at_end : (y next off : ℤ) (change : Day × ℤ)
    → next ≡ (first_day y +ℤ pos (days_in_year y)) *ℤ pos 86_400 → rule_day y change.0 ≡ None → IsCeiling (change_in y change off) next
change_at_end y next off change is_next none =
    let high : last_nanosecond y ≡ next *ℤ pos 1_000_000_000 -ℤ pos 1 = omega (arith, signed_arith, is_next) in
    ceil_of (change_in y change off) next (next *ℤ pos 1_000_000_000 -ℤ pos 1) next
    (ap (λ o. match_some o (last_nanosecond y) (λ day. clamp_to (first_nanosecond y) (last_nanosecond y) (day *ℤ nanos_per_day +ℤ nanos_of_seconds (change.1 -ℤ off)))) none ∙ high)
    refl (omega (arith, signed_arith)) (omega (arith, signed_arith))

-- what is kept between two numbers lies there
pub clamp_bounds : (low high n : ℤ) → low ≤ℤ high → (low ≤ℤ clamp_to low high n) × (clamp_to low high n ≤ℤ high)
clamp_bounds low high n order = elim (order_of low n) [
  | inr below ↦ let e = clamp_low low high n below in (omega (arith, signed_arith, e), omega (arith, signed_arith, e, order))
  | inl at ↦ elim (order_of n high) [
    | inl under ↦ let e = within low high n at under in (omega (arith, signed_arith, e, at), omega (arith, signed_arith, e, under))
    | inr over ↦ let e = clamp_high low high n at over in (omega (arith, signed_arith, e, order), omega (arith, signed_arith, e))
  ]
]

-- an edge lies beside an instant and a later one before the end
pub side : (edge a near t : ℤ) → (edge ≤ℤ a) ⊎ (near ≤ℤ edge) → t <ℤ near → (edge ≤ℤ a) ⊎ (t <ℤ edge)
side edge a near t h less = elim h [
  | inl at ↦ inl at
  | inr later ↦ inr (omega (arith, signed_arith, less, later))
]

moved_side : (edge a t o : ℤ) → ((edge -ℤ o) ≤ℤ a) ⊎ (t <ℤ (edge -ℤ o)) → (edge ≤ℤ (a +ℤ o)) ⊎ ((t +ℤ o) <ℤ edge)
moved_side edge a t o h = elim h [
  | inl at ↦ inl (omega (arith, signed_arith, at))
  | inr less ↦ inr (omega (arith, signed_arith, less))
]

not_past : (y next a t : ℤ) → next ≡ (first_day y +ℤ pos (days_in_year y)) *ℤ pos 86_400 → IsInYear y a → a ≤ℤ t → (next ≤ℤ a) ⊎ (t <ℤ next) → IsInYear y t
not_past y next a t is_next at up h = elim h [
  | inl past ↦ let before = at.before in absurd (omega (arith, signed_arith, is_next, past, before))
  | inr less ↦ let from = at.from in record {
    year_in = at.year_in;
    from = omega (arith, signed_arith, from, up);
    before = omega (arith, signed_arith, is_next, less);
  }
]

pub year_of_second : (y s : ℤ) → IsInYear y s → year_of_nanos (nanos_of_seconds s) ≡ y
year_of_second y s at =
    let from = at.from in let before = at.before in
    moment_year y (nanos_of_seconds s) at.year_in (omega (arith, signed_arith, from)) (omega (arith, signed_arith, before))

abbrev picked : Bool → ℤ × ℤ → ℤ × ℤ → ℤ × ℤ
picked b x y = if b then x else y

first_end : (b : Bool) (s e l : ℤ) → (picked b (s, l) (s, e)).0 ≡ s
first_end true s e l = refl
first_end false s e l = refl

second_end : (b : Bool) (s e l a t : ℤ) → Beside e a t → Beside l a t → Beside (picked b (s, l) (s, e)).1 a t
second_end true s e l a t h g = g
second_end false s e l a t h g = h

beside_ceiling : (edge s a t : ℤ) → IsCeiling edge s → (s ≤ℤ a) ⊎ (t <ℤ s) → Beside edge (nanos_of_seconds a) (nanos_of_seconds t)
beside_ceiling edge s a t c h = beside_seconds edge s a t c.reached c.first h

-- nothing changes at UTC beside the three edges
pub shown_same : (std : ℤ) (summer : DstText) (year : Year) (start finish a t : ℤ) → IsYearOf year → IsInYear year.number a
    → IsCeiling (change_in year.number summer.start std) start → IsCeiling (change_in year.number summer.finish summer.seconds) finish
    → a ≤ℤ t → (year.next ≤ℤ a) ⊎ (t <ℤ year.next) → (start ≤ℤ a) ⊎ (t <ℤ start) → (finish ≤ℤ a) ⊎ (t <ℤ finish)
    → offset_by std (Some summer) (nanos_of_seconds a) ≡ offset_by std (Some summer) (nanos_of_seconds t)
shown_same std summer year start finish a t is at starts ends up at_year at_start at_finish =
    let y = year.number in
    let at_t = not_past y year.next a t is.next at up at_year in
    let last : IsCeiling (last_nanosecond y) year.next = let e = is.next in record { reached = omega (arith, signed_arith, e); first = omega (arith, signed_arith, e) } in
    let s : ℤ = change_in y summer.start std in
    let e : ℤ = change_in y summer.finish summer.seconds in
    let all : Bool = int_same s (first_nanosecond y) && leaves y (saturating_add e (nanos_of_seconds std)) in
    offset_same std summer y (nanos_of_seconds a) (nanos_of_seconds t) (omega (arith, signed_arith, up))
    (year_of_second y a at) (year_of_second y t at_t)
    (subst (λ k. Beside k (nanos_of_seconds a) (nanos_of_seconds t)) (sym (first_end all s e (last_nanosecond y))) (beside_ceiling s start a t starts at_start))
    (second_end all s e (last_nanosecond y) (nanos_of_seconds a) (nanos_of_seconds t) (beside_ceiling e finish a t ends at_finish) (beside_ceiling _ year.next a t last at_year))

moved_up : (edge s d a t : ℤ) → IsNear s → IsBetween (neg_ℤ (pos 200_000)) (pos 200_000) d → IsCeiling edge s → ((s +ℤ d) ≤ℤ a) ⊎ (t <ℤ (s +ℤ d))
    → Beside (saturating_add edge (nanos_of_seconds d)) (nanos_of_seconds a) (nanos_of_seconds t)
moved_up edge s d a t near small c h =
    let r = c.reached in let f = c.first in
    let sum = shift_is_sum edge (nanos_of_seconds d) (omega (arith, signed_arith, near, small, f)) (omega (arith, signed_arith, near, small, r)) in
    subst (λ k. Beside k (nanos_of_seconds a) (nanos_of_seconds t)) (sym sum)
    (beside_seconds (edge +ℤ nanos_of_seconds d) (s +ℤ d) a t (omega (arith, signed_arith, r)) (omega (arith, signed_arith, f)) h)

moved_down : (edge s d a t : ℤ) → IsNear s → IsBetween (neg_ℤ (pos 200_000)) (pos 200_000) d → IsCeiling edge s → ((s -ℤ d) ≤ℤ a) ⊎ (t <ℤ (s -ℤ d))
    → Beside (saturating_sub edge (nanos_of_seconds d)) (nanos_of_seconds a) (nanos_of_seconds t)
moved_down edge s d a t near small c h =
    let r = c.reached in let f = c.first in
    let sum = shift_is_difference edge (nanos_of_seconds d) (omega (arith, signed_arith, near, small, f)) (omega (arith, signed_arith, near, small, r)) in
    subst (λ k. Beside k (nanos_of_seconds a) (nanos_of_seconds t)) (sym sum)
    (beside_seconds (edge -ℤ nanos_of_seconds d) (s -ℤ d) a t (omega (arith, signed_arith, r)) (omega (arith, signed_arith, f)) h)

-- nothing changes on the wall clock beside the five edges
pub given_stays : (std : ℤ) (summer : DstText) (year : Year) (start finish shift a t o : ℤ) → IsYearOf year → IsInYear year.number (a +ℤ o)
    → IsCeiling (change_in year.number summer.start (pos 0)) start → IsCeiling (change_in year.number summer.finish (pos 0)) finish
    → IsNear start → IsNear finish → shift ≡ summer.seconds -ℤ std → IsBetween (neg_ℤ (pos 200_000)) (pos 200_000) shift
    → a ≤ℤ t → ((year.next -ℤ o) ≤ℤ a) ⊎ (t <ℤ (year.next -ℤ o))
    → ((start -ℤ o) ≤ℤ a) ⊎ (t <ℤ (start -ℤ o)) → ((finish -ℤ o) ≤ℤ a) ⊎ (t <ℤ (finish -ℤ o))
    → ((start +ℤ shift -ℤ o) ≤ℤ a) ⊎ (t <ℤ (start +ℤ shift -ℤ o)) → ((finish -ℤ shift -ℤ o) ≤ℤ a) ⊎ (t <ℤ (finish -ℤ shift -ℤ o))
    → IsGiven std (Some summer) o a t
given_stays std summer year start finish shift a t o is at starts ends near_start near_finish is_shift small up at_year at_start at_finish at_gap at_fold =
    let y = year.number in
    let up' : (a +ℤ o) ≤ℤ (t +ℤ o) = omega (arith, signed_arith, up) in
    let at_t = not_past y year.next (a +ℤ o) (t +ℤ o) is.next at up' (moved_side year.next a t o at_year) in
    let nanos : nanos_of_seconds shift ≡ shift_of std summer = omega (arith, signed_arith, is_shift) in
    record {
      year = y;
      at_a = at;
      at_t = at_t;
      same = given_same std summer y (nanos_of_seconds (a +ℤ o)) (nanos_of_seconds (t +ℤ o)) (omega (arith, signed_arith, up))
          (record {
            start = beside_ceiling _ start (a +ℤ o) (t +ℤ o) starts (moved_side start a t o at_start);
            end = beside_ceiling _ finish (a +ℤ o) (t +ℤ o) ends (moved_side finish a t o at_finish);
            moved_start = subst (λ d. Beside (saturating_add (change_in y summer.start (pos 0)) d) (nanos_of_seconds (a +ℤ o)) (nanos_of_seconds (t +ℤ o))) nanos
                (moved_up _ start shift (a +ℤ o) (t +ℤ o) near_start small starts (moved_side (start +ℤ shift) a t o at_gap));
            moved_end = subst (λ d. Beside (saturating_sub (change_in y summer.finish (pos 0)) d) (nanos_of_seconds (a +ℤ o)) (nanos_of_seconds (t +ℤ o))) nanos
                (moved_down _ finish shift (a +ℤ o) (t +ℤ o) near_finish small ends (moved_side (finish -ℤ shift) a t o at_fold));
          });
    }

-- the same facts under equal names of numbers
pub near_side : (at end edge near a x t : ℤ) → IsNearer at end edge near → at ≡ a → edge ≡ x → t <ℤ near → (x ≤ℤ a) ⊎ (t <ℤ x)
near_side at end edge near a x t h e g less = elim h.beside [
  | inl past ↦ inl (omega (arith, signed_arith, past, e, g))
  | inr later ↦ inr (omega (arith, signed_arith, later, g, less))
]

pub same_change : (y o k s r : ℤ) (change : Day × ℤ) → o ≡ k → s ≡ r → IsCeiling (change_in y change o) s → IsCeiling (change_in y change k) r
same_change y o k s r change e g h = subst (λ x. IsCeiling (change_in y change k) x) g (subst (λ x. IsCeiling (change_in y change x) s) e h)

pub same_second : (y s r : ℤ) → s ≡ r → IsInYear y s → IsInYear y r
same_second y s r e h = subst (IsInYear y) e h

-- a number of 64 bits is what it was written as
pub back : (z : ℤ) → neg_ℤ (pos 1_000_000_000_000) ≤ℤ z → z ≤ℤ pos 1_000_000_000_000 → to_z w64 (of_z w64 z) ≡ z
back z low high = omega (arith, signed_arith, low, high)

abbrev pub Ends : ℤ → ℤ → Type 0
Ends at end = (neg_ℤ (pos 93_599) ≤ℤ at) × (at <ℤ end) × (end ≤ℤ pos 7_258_118_400)

end_back : (at end : ℤ) → Ends at end → to_z w64 (of_z w64 end) ≡ end
end_back at end h = back end (omega (arith, signed_arith, h)) (omega (arith, signed_arith, h))

nearer_ends : (at end edge near : ℤ) → Ends at end → IsNearer at end edge near → Ends at near
nearer_ends at end edge near e h = let a = h.after e.1 in let b = h.before in (e.0, a, omega (arith, signed_arith, b, e))

nearer_back : (at end edge near a e x : ℤ) → a ≡ at → e ≡ end → x ≡ edge → IsNearer a e x near → IsNearer at end edge near
nearer_back at end edge near a e x p q r h =
    subst (λ k. IsNearer k end edge near) p (subst (λ k. IsNearer a k edge near) q (subst (λ k. IsNearer a e k near) r h))

nearer_than : (edge at mid near : ℤ) → near ≤ℤ mid → (edge ≤ℤ at) ⊎ (mid ≤ℤ edge) → (edge ≤ℤ at) ⊎ (near ≤ℤ edge)
nearer_than edge at mid near less h = elim h [
  | inl past ↦ inl past
  | inr later ↦ inr (omega (arith, signed_arith, less, later))
]

-- the end or an edge stays one of these where it gives way to an edge
one_of : (end mid near edge : ℤ) (edges : Edges) → (mid ≡ end) ⊎ IsEdge edges mid → IsEdge edges edge
    → (near ≡ mid) ⊎ (near ≡ edge) → (near ≡ end) ⊎ IsEdge edges near
one_of end mid near edge edges h is one = elim one [
  | inl same ↦ subst (λ k. (k ≡ end) ⊎ IsEdge edges k) (sym same) h
  | inr other ↦ inr (subst (IsEdge edges) (sym other) is)
]

-- the nearest one of five edges, edge by edge
pub nearest_is : (at end : ℤ) (edges : Edges) (n1 n2 n3 n4 n5 a x1 x2 x3 x4 x5 : ℤ) → Ends at end → a ≡ at
    → x1 ≡ edges.year → x2 ≡ edges.start → x3 ≡ edges.finish → x4 ≡ edges.gap → x5 ≡ edges.fold
    → IsNearer a (to_z w64 (of_z w64 end)) x1 n1 → IsNearer a (to_z w64 (of_z w64 n1)) x2 n2 → IsNearer a (to_z w64 (of_z w64 n2)) x3 n3
    → IsNearer a (to_z w64 (of_z w64 n3)) x4 n4 → IsNearer a (to_z w64 (of_z w64 n4)) x5 n5 → IsNearest at end edges (to_z w64 (of_z w64 n5))
nearest_is at end edges n1 n2 n3 n4 n5 a x1 x2 x3 x4 x5 e0 is p1 p2 p3 p4 p5 h1 h2 h3 h4 h5 =
    let k1 = nearer_back at end edges.year n1 a (to_z w64 (of_z w64 end)) x1 is (end_back at end e0) p1 h1 in
    let e1 = nearer_ends at end edges.year n1 e0 k1 in
    let k2 = nearer_back at n1 edges.start n2 a (to_z w64 (of_z w64 n1)) x2 is (end_back at n1 e1) p2 h2 in
    let e2 = nearer_ends at n1 edges.start n2 e1 k2 in
    let k3 = nearer_back at n2 edges.finish n3 a (to_z w64 (of_z w64 n2)) x3 is (end_back at n2 e2) p3 h3 in
    let e3 = nearer_ends at n2 edges.finish n3 e2 k3 in
    let k4 = nearer_back at n3 edges.gap n4 a (to_z w64 (of_z w64 n3)) x4 is (end_back at n3 e3) p4 h4 in
    let e4 = nearer_ends at n3 edges.gap n4 e3 k4 in
    let k5 = nearer_back at n4 edges.fold n5 a (to_z w64 (of_z w64 n4)) x5 is (end_back at n4 e4) p5 h5 in
    let e5 = nearer_ends at n4 edges.fold n5 e4 k5 in
    let o1 = one_of end end n1 edges.year edges (inl refl) (inl refl) k1.one in
    let o2 = one_of end n1 n2 edges.start edges o1 (inr (inl refl)) k2.one in
    let o3 = one_of end n2 n3 edges.finish edges o2 (inr (inr (inl refl))) k3.one in
    let o4 = one_of end n3 n4 edges.gap edges o3 (inr (inr (inr (inl refl)))) k4.one in
    let o5 = one_of end n4 n5 edges.fold edges o4 (inr (inr (inr (inr refl)))) k5.one in
    subst (IsNearest at end edges) (sym (end_back at n5 e5)) (record {
      after = e5.1;
      before = omega (arith, signed_arith, k1.before, k2.before, k3.before, k4.before, k5.before);
      year = nearer_than edges.year at n1 n5 (omega (arith, signed_arith, k2.before, k3.before, k4.before, k5.before)) k1.beside;
      start = nearer_than edges.start at n2 n5 (omega (arith, signed_arith, k3.before, k4.before, k5.before)) k2.beside;
      finish = nearer_than edges.finish at n3 n5 (omega (arith, signed_arith, k4.before, k5.before)) k3.beside;
      gap = nearer_than edges.gap at n4 n5 k5.before k4.beside;
      fold = k5.beside;
      one = o5;
    })

edge_side : (edge x at near t : ℤ) → edge ≡ x → t <ℤ near → (edge ≤ℤ at) ⊎ (near ≤ℤ edge) → (x ≤ℤ at) ⊎ (t <ℤ x)
edge_side edge x at near t is less h = elim h [
  | inl past ↦ inl (omega (arith, signed_arith, past, is))
  | inr later ↦ inr (omega (arith, signed_arith, later, is, less))
]

-- nothing changes on the wall clock before the nearest edge
pub given_to : (std : ℤ) (summer : DstText) (year : Year) (start finish shift at o end near : ℤ) (edges : Edges) → IsYearOf year → IsInYear year.number (at +ℤ o)
    → IsCeiling (change_in year.number summer.start (pos 0)) start → IsCeiling (change_in year.number summer.finish (pos 0)) finish
    → IsNear start → IsNear finish → shift ≡ summer.seconds -ℤ std → IsBetween (neg_ℤ (pos 200_000)) (pos 200_000) shift
    → AreEdges year.next start finish shift o edges → IsNearest at end edges near → IsGivenTo std summer o at near
given_to std summer year start finish shift at o end near edges is in_year starts ends ns nf sh small e n t up less =
    given_stays std summer year start finish shift at t o is in_year starts ends ns nf sh small up
    (edge_side edges.year (year.next -ℤ o) at near t e.year less n.year)
    (edge_side edges.start (start -ℤ o) at near t e.start_is less n.start)
    (edge_side edges.finish (finish -ℤ o) at near t e.finish_is less n.finish)
    (edge_side edges.gap (start +ℤ shift -ℤ o) at near t e.gap less n.gap)
    (edge_side edges.fold (finish -ℤ shift -ℤ o) at near t e.fold less n.fold)

pub at_back : (at : ℤ) → IsBetween (neg_ℤ (pos 93_599)) (pos 7_258_118_399) at → to_z w64 (of_z w64 at) ≡ at
at_back at h = back at (omega (arith, signed_arith, h)) (omega (arith, signed_arith, h))

pub offset_back : (o : ℤ) → IsOffsetSeconds o → to_z w64 (of_z w64 o) ≡ o
offset_back o h = back o (omega (arith, signed_arith, h)) (omega (arith, signed_arith, h))

pub near_back : (s : ℤ) → IsNear s → to_z w64 (of_z w64 s) ≡ s
near_back s h = back s (omega (arith, signed_arith, h)) (omega (arith, signed_arith, h))

pub shift_back : (s : ℤ) → IsBetween (neg_ℤ (pos 200_000)) (pos 200_000) s → to_z w64 (of_z w64 s) ≡ s
shift_back s h = back s (omega (arith, signed_arith, h)) (omega (arith, signed_arith, h))

pub bound_back : (s : ℤ) → IsBetween (neg_ℤ (pos 1_000_000_000_000)) (pos 1_000_000_000_000) s → to_z w64 (of_z w64 s) ≡ s
bound_back s h = back s h.0 h.1

pub ends_at : (at end : ℤ) → IsBetween (neg_ℤ (pos 93_599)) (pos 7_258_118_399) at → at <ℤ end → end ≤ℤ pos 7_258_118_400 → Ends at end
ends_at at end h up last = (h.0, up, last)

pub sum_back : (at o : ℤ) → IsBetween (neg_ℤ (pos 93_599)) (pos 7_258_118_399) at → IsOffsetSeconds o
    → to_z w64 (of_z w64 (to_z w64 (of_z w64 at) +ℤ to_z w64 (of_z w64 o))) ≡ at +ℤ o
sum_back at o h g =
    ap (λ k. to_z w64 (of_z w64 (k +ℤ to_z w64 (of_z w64 o)))) (at_back at h) ∙ ap (λ k. to_z w64 (of_z w64 (at +ℤ k))) (offset_back o g)
    ∙ back (at +ℤ o) (omega (arith, signed_arith, h, g)) (omega (arith, signed_arith, h, g))

pub near_in : (year : Year) (s : ℤ) → IsYearOf year → year.first ≤ℤ s → s ≤ℤ year.next → IsNear s
near_in year s is from to = let low = is.low in let high = is.high in (omega (arith, signed_arith, low, from), omega (arith, signed_arith, high, to))

pub near_next : (year : Year) → IsYearOf year → IsNear year.next
near_next year is =
    let low = is.low in let first = is.first in let next = is.next in
    (omega (arith, signed_arith, low, first, next), is.high)

pub same_edges : (n s f h o n' s' f' h' o' : ℤ) (edges : Edges) → n ≡ n' → s ≡ s' → f ≡ f' → h ≡ h' → o ≡ o' → AreEdges n s f h o edges → AreEdges n' s' f' h' o' edges
same_edges n s f h o n' s' f' h' o' edges e1 e2 e3 e4 e5 is =
    subst (λ k. AreEdges k s' f' h' o' edges) e1 (subst (λ k. AreEdges n k f' h' o' edges) e2 (subst (λ k. AreEdges n s k h' o' edges) e3
    (subst (λ k. AreEdges n s f k o' edges) e4 (subst (λ k. AreEdges n s f h k edges) e5 is))))

pub same_at : (at at' end near : ℤ) (edges : Edges) → at ≡ at' → IsNearest at end edges near → IsNearest at' end edges near
same_at at at' end near edges e h = subst (λ k. IsNearest k end edges near) e h

pub nearest_back : (at end near e : ℤ) (edges : Edges) → Ends at end → e ≡ end → IsNearest at e edges near → to_z w64 (of_z w64 near) ≡ near
nearest_back at end near e edges ends same h =
    let a = h.after in let b = h.before in
    back near (omega (arith, signed_arith, a, ends)) (omega (arith, signed_arith, b, ends, same))

pub cast_end : (at end : ℤ) → Ends at end → to_z w64 (of_z w64 end) ≡ end
cast_end at end h = end_back at end h

pub given_cast : (std : ℤ) (summer : DstText) (o at n k : ℤ) → n ≡ k → IsGivenTo std summer o at k → IsGivenTo std summer o at n
given_cast std summer o at n k e h = subst (IsGivenTo std summer o at) (sym e) h

pub after_cast : (at near n : ℤ) → n ≡ near → at <ℤ near → at <ℤ n
after_cast at near n e h = omega (arith, signed_arith, e, h)

pub before_cast : (end near n e : ℤ) → n ≡ near → e ≡ end → near ≤ℤ e → n ≤ℤ end
before_cast end near n e p q h = omega (arith, signed_arith, p, q, h)

pub ends_from : (at a end : ℤ) → a ≡ at → IsBetween (neg_ℤ (pos 93_599)) (pos 7_258_118_399) at → a <ℤ end → end ≤ℤ pos 7_258_118_400 → Ends at end
ends_from at a end same h up last = (h.0, omega (arith, signed_arith, same, up), last)
