-- Pieces of time: stretches of instants in which neither the offset of the clock changes nor the
-- offset that the zone gives for what the clock shows.
use Rattle.std.specs.Prelude.{◌≡◌, ◌⊎◌, ℕ, ℤ, pos, neg_ℤ, ◌+ℤ◌, ◌-ℤ◌, ◌*ℤ◌, ◌≤ℤ◌, ◌<ℤ◌, ◌<◌, Bool, true, false, Option, Some, None, IfSome}
use Rattle.std.specs.Ordering.{int_eq}
use Rattle.jiff_core.specs.Timestamp.{nanos_of_seconds}
use Rattle.jiff_core.specs.Calendar.{IsYear, IsBetween, days_in_year}
use Rattle.jiff_tz.specs.PosixRule.{first_day}
use Rattle.jiff_tz.specs.PosixText.{TzText, DstText, tz_view}
use Rattle.jiff_tz.specs.declared.timezone.TimeZone.{TimeZone}
use Rattle.jiff_tz.specs.declared.timezone.TimeZone.TheVariants.{UTC, Unknown, Fixed, Posix, Tzif}
use Rattle.rb_cron.specs.Civil.{civil_of}
use Rattle.rb_cron.specs.Clock.{utc, offset_at, given_offset, offset_by, offset_given}
use Rattle.rb_cron.specs.Due.{Source, is_due}
use Rattle.rb_cron.specs.declared.piece.Piece.{Piece}
use Rattle.rb_cron.specs.declared.piece.Edges.{Edges}
use Rattle.rb_cron.specs.declared.piece.Year.{Year}

-- the offset that the zone gives is this one
abbrev pub is_this_offset : Option ℤ → ℤ → Bool
is_this_offset None offset = false
is_this_offset (Some given) offset = int_eq given offset

-- the offset that the zone gives for a civil time, which is this one
abbrev pub gives_offset : TzText → ℕ → ℤ → Bool
gives_offset z n offset =
    is_this_offset (given_offset z (pos (civil_of n).year) (nanos_of_seconds (pos n))) offset

-- From `a` to the end the clock is ahead by the piece's offset, and where it shows a time of 1970
-- to 2199, the zone gives this offset for it or does not, as the piece tells.
pub record IsPiece (z : TzText) (a : ℤ) (piece : Piece) : Type 0 where
  pub shown : (t : ℤ) → a ≤ℤ t → t <ℤ piece.end → offset_at z (nanos_of_seconds t) ≡ piece.offset
  pub given : (t : ℤ) (n : ℕ) → a ≤ℤ t → t <ℤ piece.end → t +ℤ piece.offset ≡ pos n
      → (civil_of n).year < 2200 → gives_offset z n piece.offset ≡ piece.agrees

abbrev pub IsPieceOf : Option TzText → ℤ → Piece → Type 0
IsPieceOf zone a piece = IfSome zone (λ z. IsPiece z a piece)

-- the rule is read, and the piece is one of its clock
abbrev pub HasPiece : Option TzText → ℤ → Piece → Type 0
HasPiece zone a piece = (z : TzText) × (zone ≡ Some z) × IsPiece z a piece

-- a moment in nanoseconds is reached with this second and with none before
pub record IsCeiling (moment second : ℤ) : Type 0 where
  pub reached : moment ≤ℤ nanos_of_seconds second
  pub first : (nanos_of_seconds second -ℤ pos 1_000_000_000) <ℤ moment

-- a second lies in a year
pub record IsInYear (year second : ℤ) : Type 0 where
  pub year_in : IsYear year
  pub from : (first_day year *ℤ pos 86_400) ≤ℤ second
  pub before : second <ℤ ((first_day year +ℤ pos (days_in_year year)) *ℤ pos 86_400)

-- these are the first second of a year and that of the next one
pub record IsYearOf (year : Year) : Type 0 where
  pub year_in : IsYear year.number
  pub first : year.first ≡ first_day year.number *ℤ pos 86_400
  pub next : year.next ≡ (first_day year.number +ℤ pos (days_in_year year.number)) *ℤ pos 86_400
  pub low : neg_ℤ (pos 40_000_000) ≤ℤ year.first
  pub high : year.next ≤ℤ pos 7_300_000_000

-- an end is another one or an edge, and no later than the other one, and than the edge where that
-- lies behind an instant
pub record IsNearer (at end edge nearer : ℤ) : Type 0 where
  pub after : at <ℤ end → at <ℤ nearer
  pub before : nearer ≤ℤ end
  pub beside : (edge ≤ℤ at) ⊎ (nearer ≤ℤ edge)
  pub one : (nearer ≡ end) ⊎ (nearer ≡ edge)

-- a second lies in the years of schedules
abbrev pub IsNear : ℤ → Type 0
IsNear s = (neg_ℤ (pos 40_000_000) ≤ℤ s) × (s ≤ℤ pos 7_300_000_000)

-- the edges on the wall clock, as instants at an offset
pub record AreEdges (next start finish shift offset : ℤ) (edges : Edges) : Type 0 where
  pub year : edges.year ≡ next -ℤ offset
  pub start_is : edges.start ≡ start -ℤ offset
  pub finish_is : edges.finish ≡ finish -ℤ offset
  pub gap : edges.gap ≡ start +ℤ shift -ℤ offset
  pub fold : edges.fold ≡ finish -ℤ shift -ℤ offset

-- each edge lies far from the bounds of 64 bits
pub record AreBounded (edges : Edges) : Type 0 where
  pub year : IsBetween (neg_ℤ (pos 1_000_000_000_000)) (pos 1_000_000_000_000) edges.year
  pub start : IsBetween (neg_ℤ (pos 1_000_000_000_000)) (pos 1_000_000_000_000) edges.start
  pub finish : IsBetween (neg_ℤ (pos 1_000_000_000_000)) (pos 1_000_000_000_000) edges.finish
  pub gap : IsBetween (neg_ℤ (pos 1_000_000_000_000)) (pos 1_000_000_000_000) edges.gap
  pub fold : IsBetween (neg_ℤ (pos 1_000_000_000_000)) (pos 1_000_000_000_000) edges.fold

-- an instant is one of the edges
abbrev pub IsEdge : Edges → ℤ → Type 0
IsEdge edges t = (t ≡ edges.year) ⊎ (t ≡ edges.start) ⊎ (t ≡ edges.finish) ⊎ (t ≡ edges.gap)
    ⊎ (t ≡ edges.fold)

-- an end behind an instant is another one or an edge, and no later than the other one, and than
-- each edge behind the instant
pub record IsNearest (at end : ℤ) (edges : Edges) (nearest : ℤ) : Type 0 where
  pub after : at <ℤ nearest
  pub before : nearest ≤ℤ end
  pub year : (edges.year ≤ℤ at) ⊎ (nearest ≤ℤ edges.year)
  pub start : (edges.start ≤ℤ at) ⊎ (nearest ≤ℤ edges.start)
  pub finish : (edges.finish ≤ℤ at) ⊎ (nearest ≤ℤ edges.finish)
  pub gap : (edges.gap ≤ℤ at) ⊎ (nearest ≤ℤ edges.gap)
  pub fold : (edges.fold ≤ℤ at) ⊎ (nearest ≤ℤ edges.fold)
  pub one : (nearest ≡ end) ⊎ IsEdge edges nearest

-- From one instant to a later one the offset stays that the zone gives for what a clock shows that
-- is so far ahead, and so does the year that it shows.
pub record IsGiven (std : ℤ) (dst : Option DstText) (offset a t : ℤ) : Type 0 where
  pub year : ℤ
  pub at_a : IsInYear year (a +ℤ offset)
  pub at_t : IsInYear year (t +ℤ offset)
  pub same : offset_given std dst year (nanos_of_seconds (a +ℤ offset))
      ≡ offset_given std dst year (nanos_of_seconds (t +ℤ offset))

-- nothing changes before the end: not the offset of a clock
abbrev pub IsShownTo : ℤ → DstText → ℤ → ℤ → Type 0
IsShownTo std summer a end = (t : ℤ) → a ≤ℤ t → t <ℤ end →
    offset_by std (Some summer) (nanos_of_seconds a)
    ≡ offset_by std (Some summer) (nanos_of_seconds t)

-- nor the offset that the zone gives
abbrev pub IsGivenTo : ℤ → DstText → ℤ → ℤ → ℤ → Type 0
IsGivenTo std summer offset a end =
    (t : ℤ) → a ≤ℤ t → t <ℤ end → IsGiven std (Some summer) offset a t

-- nor either of them; without summer time there is nothing to change
abbrev pub IsSteadyTo : ℤ → Option DstText → ℤ → ℤ → ℤ → Type 0
IsSteadyTo std None offset a end = Unit {0}
IsSteadyTo std (Some summer) offset a end =
    IsShownTo std summer a end × IsGivenTo std summer offset a end

-- what a kept zone's clock goes by
abbrev pub clock_of : TimeZone → Option TzText
clock_of UTC = Some utc
clock_of (Posix tz) = Some (tz_view tz)
clock_of Unknown = None
clock_of (Fixed offset) = None
clock_of (Tzif table) = None

-- none is due from one instant on and before another
abbrev pub NoneDueIn : Source → ℤ → ℤ → Type 0
NoneDueIn source from end = (t : ℤ) → from ≤ℤ t → t <ℤ end → is_due source t ≡ false

-- the instant is due, and the least such one from another on, before an end
pub record IsNextDue (source : Source) (from end t : ℤ) : Type 0 where
  pub due : is_due source t ≡ true
  pub later : from ≤ℤ t
  pub before : t <ℤ end
  pub least : NoneDueIn source from t
