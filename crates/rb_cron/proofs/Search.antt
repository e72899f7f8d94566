-- What is due in a piece of time, and what a search from piece to piece has passed.
use Rattle.std.proofs.Common.{◌≡◌, ℕ, ◌≤◌, ◌<◌, ℤ, pos, negsuc, ◌+ℤ◌, ◌-ℤ◌, ◌≤ℤ◌, ◌<ℤ◌, Bool, true, false, ◌&&◌, Option, Some, None, arith, refl, ap, sym, subst, ◌∙◌, inl, inr, neg_ℤ, int_lt, to_z, of_z, w64}
use Rattle.std.specs.Ordering.{int_eq}
use Rattle.std.specs.Prelude.{◌⊎◌, IfNone}
use Rattle.std.proofs.lemmas.Bool.{false_from_ne_true, and_left, and_right, and_from}
use Rattle.std.proofs.lemmas.Int.{ints}
use Rattle.jiff.proofs.SpanFacts.{signed_arith}
use Rattle.jiff_core.specs.Timestamp.{nanos_of_seconds, IsOffsetSeconds}
use Rattle.jiff_core.specs.Calendar.{IsBetween}
use Rattle.jiff_tz.specs.PosixText.{TzText}
use Rattle.rb_cron.specs.Civil.{civil_of}
use Rattle.rb_cron.specs.Clock.{zone_of, given_offset}
use Rattle.rb_cron.specs.Days.{NoneMeet, IsNextCivil}
use Rattle.rb_cron.specs.Due.{Source, IsFirstFor, is_due, is_due_in, is_due_when, is_instant, civil_at, meets}
use Rattle.rb_cron.specs.Next.{NoneDue, IsDueAfter, natural_of, end_of_schedules}
use Rattle.rb_cron.specs.Pieces.{IsPiece, HasPiece, is_this_offset, IsNextDue, NoneDueIn}
use Rattle.rb_cron.specs.declared.fields.Fields.{Fields}
use Rattle.rb_cron.specs.declared.piece.Piece.{Piece}
use Rattle.rb_cron.proofs.Agreeing.{own_instant, other_instant, none_before}
use Rattle.rb_cron.proofs.Edges.{back, Ends}
use Rattle.rb_cron.proofs.Given.{year_bound}
use Rattle.rb_cron.proofs.Least.{order_of}

-- the instant at an offset is that at which a clock shows so much ahead, if it is this offset
instant_given : (g : Option ℤ) (o t civil : ℤ) → t +ℤ o ≡ civil → is_instant g civil t ≡ is_this_offset g o
instant_given None o t civil is = refl
instant_given (Some g) o t civil is = elim (int_eq g o) as (λ b. int_eq g o ≡ b → is_instant (Some g) civil t ≡ b) [
  | true ↦ λ e.
      let same : g ≡ o = grind (arith, ints, e) in
      ap (λ k. is_instant (Some k) civil t) same ∙ ap (λ k. is_instant (Some o) k t) (sym is) ∙ own_instant o t
  | false ↦ λ e. ap (λ k. is_instant (Some g) k t) (sym is) ∙ other_instant o g t (λ same. let other : int_eq g o ≡ true = grind (arith, ints, same) in cc)
] refl

by_meets : (m b d : Bool) → (m ≡ true → b ≡ d) → (m && b) ≡ (m && d)
by_meets true b d h = ap (λ k. true && k) (h refl)
by_meets false true true h = refl
by_meets false true false h = refl
by_meets false false true h = refl
by_meets false false false h = refl

-- in a piece an instant is due where its civil time meets the fields and clock and zone agree
pub due_in_piece : (z : TzText) (f : Fields) (a : ℤ) (piece : Piece) (t : ℤ) (n : ℕ) → IsPiece z a piece → a ≤ℤ t → t <ℤ piece.end → t +ℤ piece.offset ≡ pos n
    → is_due_when z f (civil_at z t) t ≡ (meets f (civil_of n) && piece.agrees)
due_in_piece z f a piece t n p up less at =
    ap (λ c. is_due_when z f c t) (ap (λ k. t +ℤ k) (p.shown t up less) ∙ at)
    ∙ by_meets (meets f (civil_of n)) _ piece.agrees (λ met.
    instant_given (given_offset z (pos (civil_of n).year) (nanos_of_seconds (pos n))) piece.offset t (pos n) at
    ∙ p.given t n up less at (year_bound f (civil_of n) met))

at_civil : (z : TzText) (f : Fields) (a : ℤ) (piece : Piece) (t civil : ℤ) → IsPiece z a piece → a ≤ℤ t → t <ℤ piece.end → t +ℤ piece.offset ≡ civil
    → ((n : ℕ) → civil ≡ pos n → (meets f (civil_of n) ≡ false) ⊎ (piece.agrees ≡ false)) → is_due_when z f (civil_at z t) t ≡ false
at_civil z f a piece t (pos n) p up less at why = due_in_piece z f a piece t n p up less at ∙ elim (why n refl) [
  | inl fails ↦ and_left (meets f (civil_of n)) piece.agrees fails
  | inr other ↦ and_right (meets f (civil_of n)) piece.agrees other
]
at_civil z f a piece t (negsuc n) p up less at why = none_before z f t n (ap (λ k. t +ℤ k) (p.shown t up less) ∙ at)

in_source : (source : Source) (z : TzText) (t : ℤ) (b : Bool) → zone_of source.rule ≡ Some z → is_due_when z source.fields (civil_at z t) t ≡ b → is_due source t ≡ b
in_source source z t b is h = ap (λ k. is_due_in k source.fields t) is ∙ h

-- where clock and zone do not agree, nothing is due
pub none_disagreeing : (source : Source) (a : ℤ) (piece : Piece) → HasPiece (zone_of source.rule) a piece → piece.agrees ≡ false → NoneDueIn source a piece.end
none_disagreeing source a piece has other t up less =
    in_source source has.0 t false has.1 (at_civil has.0 source.fields a piece t _ has.2 up less refl (λ n is. inr other))

-- nothing is due before a civil time before which none meets the fields
pub none_before_civil : (source : Source) (a end : ℤ) (piece : Piece) (from to : ℕ) → HasPiece (zone_of source.rule) a piece
    → ((n : ℕ) → (a +ℤ piece.offset) ≤ℤ pos n → from ≤ n) → NoneMeet source.fields from to → end ≤ℤ piece.end
    → ((n : ℕ) (t : ℤ) → t <ℤ end → t +ℤ piece.offset ≡ pos n → n < to) → NoneDueIn source a end
none_before_civil source a end piece from to has starts none within ends t up less =
    in_source source has.0 t false has.1 (at_civil has.0 source.fields a piece t _ has.2 up (omega (arith, signed_arith, less, within)) refl
    (λ n is. inl (none n (starts n (omega (arith, signed_arith, up, is))) (ends n t less is))))

-- the least civil time of a piece is the least due instant
pub next_due_is : (source : Source) (a : ℤ) (piece : Piece) (from to found : ℕ) (t : ℤ) → HasPiece (zone_of source.rule) a piece → piece.agrees ≡ true
    → ((n : ℕ) → (a +ℤ piece.offset) ≤ℤ pos n → from ≤ n) → (a +ℤ piece.offset) ≤ℤ pos from → ((n : ℕ) → n < to → pos n <ℤ (piece.end +ℤ piece.offset))
    → IsNextCivil source.fields from to found → t +ℤ piece.offset ≡ pos found → IsNextDue source a piece.end t
next_due_is source a piece from to found t has agrees starts low ends next at =
    let later = next.later in
    let up : a ≤ℤ t = omega (arith, signed_arith, low, later, at) in
    let high = ends found next.before in
    let less : t <ℤ piece.end = omega (arith, signed_arith, high, at) in
    record {
      due = in_source source has.0 t true has.1 (due_in_piece has.0 source.fields a piece t found has.2 up less at ∙ and_from _ _ next.met agrees);
      later = up;
      before = less;
      least = none_before_civil source a t piece from found has starts next.least (omega (arith, signed_arith, less))
          (λ n u below is. omega (arith, signed_arith, below, is, at));
    }

-- what is passed grows by what is passed over
pub due_passed : (source : Source) (after a end : ℤ) → NoneDue source after a → NoneDueIn source a end → NoneDue source after end
due_passed source after a end before behind t low high = elim (order_of a t) [
  | inl at ↦ behind t at high
  | inr less ↦ before t low less
]

pub next_after : (source : Source) (after a end t : ℤ) → NoneDue source after a → (after <ℤ a) → end ≤ℤ end_of_schedules → IsNextDue source a end t
    → IsDueAfter source after t × NoneDue source after t
next_after source after a end t before up last h =
    let later = h.later in let less = h.before in (
      (h.due, omega (arith, signed_arith, up, later), omega (arith, signed_arith, less, last)),
      due_passed source after a t before h.least,
    )

fewer : (x y : ℤ) → y <ℤ x → pos 0 <ℤ x → natural_of y < natural_of x
fewer (pos n) (pos m) less some = omega (arith, signed_arith, less)
fewer (pos n) (negsuc m) less some = omega (arith, signed_arith, some)
fewer (negsuc n) y less some = absurd (omega (arith, signed_arith, some))

-- what is left of the instants falls
pub fewer_left : (a b : ℤ) → a <ℤ b → a <ℤ end_of_schedules → natural_of (end_of_schedules -ℤ b) < natural_of (end_of_schedules -ℤ a)
fewer_left a b up low = fewer (end_of_schedules -ℤ a) (end_of_schedules -ℤ b) (omega (arith, signed_arith, up)) (omega (arith, signed_arith, low))

count_least : (x : ℤ) (n : ℕ) → x ≤ℤ pos n → natural_of x ≤ n
count_least (pos k) n h = omega (arith, signed_arith, h)
count_least (negsuc k) n h = omega arith

count_up : (x : ℤ) → x ≤ℤ pos (natural_of x)
count_up (pos k) = omega (arith, signed_arith)
count_up (negsuc k) = omega (arith, signed_arith)

count_below : (x : ℤ) (n : ℕ) → n < natural_of x → pos n <ℤ x
count_below (pos k) n h = omega (arith, signed_arith, h)
count_below (negsuc k) n h = absurd (omega (arith, h))

count_over : (x : ℤ) (n : ℕ) → pos n <ℤ x → n < natural_of x
count_over (pos k) n h = omega (arith, signed_arith, h)
count_over (negsuc k) n h = absurd (omega (arith, signed_arith, h))

pub count_bound : (x : ℤ) (n : ℕ) → x ≤ℤ pos 10_000_000_000 → n < natural_of x → n ≤ 10_000_000_000
count_bound x n h less = let below = count_below x n less in omega (arith, signed_arith, below, h)

pub due_found : (source : Source) (a : ℤ) (piece : Piece) (found : ℕ) (t : ℤ) → HasPiece (zone_of source.rule) a piece → piece.agrees ≡ true
    → IsNextCivil source.fields (natural_of (a +ℤ piece.offset)) (natural_of (piece.end +ℤ piece.offset)) found → t ≡ pos found -ℤ piece.offset → IsNextDue source a piece.end t
due_found source a piece found t has agrees next at =
    next_due_is source a piece (natural_of (a +ℤ piece.offset)) (natural_of (piece.end +ℤ piece.offset)) found t has agrees
    (λ n up. count_least (a +ℤ piece.offset) n up) (count_up (a +ℤ piece.offset)) (λ n less. count_below (piece.end +ℤ piece.offset) n less)
    next (omega (arith, signed_arith, at))

pub none_found : (source : Source) (a : ℤ) (piece : Piece) → HasPiece (zone_of source.rule) a piece
    → NoneMeet source.fields (natural_of (a +ℤ piece.offset)) (natural_of (piece.end +ℤ piece.offset)) → NoneDueIn source a piece.end
none_found source a piece has none =
    none_before_civil source a piece.end piece (natural_of (a +ℤ piece.offset)) (natural_of (piece.end +ℤ piece.offset)) has
    (λ n up. count_least (a +ℤ piece.offset) n up) none (omega (arith, signed_arith))
    (λ n t less at. count_over (piece.end +ℤ piece.offset) n (omega (arith, signed_arith, less, at)))

pub if_none_due : {P : Type 0} (r : Option ℤ) → r ≡ None → P → IfNone r P
if_none_due None is h = h
if_none_due (Some x) is h = absurd (cc)

pub none_past : (source : Source) (after at : ℤ) → at ≤ℤ (after +ℤ pos 1) → NoneDue source after at
none_past source after at h t low high = absurd (omega (arith, signed_arith, h, low, high))

pub none_early : (source : Source) (after first : ℤ) → IsFirstFor source.rule first → NoneDue source after first
none_early source after first is t low high = false_from_ne_true (is_due source t) (λ due. let up = is source.fields t due in omega (arith, signed_arith, up, high))

pub later_on : (after at end : ℤ) → (after <ℤ at) ⊎ (end_of_schedules ≤ℤ at) → at <ℤ end_of_schedules → after <ℤ at
later_on after at end h low = elim h [
  | inl up ↦ up
  | inr past ↦ absurd (omega (arith, signed_arith, past, low))
]

pub past_end : (source : Source) (after at : ℤ) → end_of_schedules ≤ℤ at → NoneDue source after at → NoneDue source after end_of_schedules
past_end source after at past none t low high = none t low (omega (arith, signed_arith, past, high))

-- the answer of a search at the piece in which one is due
pub answer_due : (source : Source) (after a at end t r : ℤ) → a ≡ after → r ≡ t → NoneDue source a at → (a <ℤ at) ⊎ (end_of_schedules ≤ℤ at) → at <ℤ end_of_schedules
    → end ≤ℤ end_of_schedules → IsNextDue source at end t → IsDueAfter source after r × NoneDue source after r
answer_due source after a at end t r e g none later low last h =
    subst (λ k. IsDueAfter source k r × NoneDue source k r) e
    (subst (λ k. IsDueAfter source a k × NoneDue source a k) (sym g) (next_after source a at end t none (later_on a at end later low) last h))

pub due_back : (source : Source) (at end t : ℤ) → IsNextDue source at end t → neg_ℤ (pos 93_599) ≤ℤ at → end ≤ℤ end_of_schedules → to_z w64 (of_z w64 t) ≡ t
due_back source at end t h low last =
    let up = h.later in let less = h.before in
    back t (omega (arith, signed_arith, up, low)) (omega (arith, signed_arith, less, last))

pub below : (a b : ℤ) → int_lt a b ≡ true → a <ℤ b
below a b h = omega (arith, signed_arith, h)

pub fewer_cast : (x y k : ℤ) → k ≡ y → x <ℤ y → x <ℤ end_of_schedules → natural_of (end_of_schedules -ℤ k) < natural_of (end_of_schedules -ℤ x)
fewer_cast x y k same up low = fewer_left x k (omega (arith, signed_arith, same, up)) low

pub same_meet : (f g : Fields) (a b x y : ℕ) → f ≡ g → a ≡ x → b ≡ y → NoneMeet f a b → NoneMeet g x y
same_meet f g a b x y e p q h = subst (λ k. NoneMeet k x y) e (subst (λ k. NoneMeet f k y) p (subst (λ k. NoneMeet f a k) q h))

pub same_next : (f g : Fields) (a b x y n : ℕ) → f ≡ g → a ≡ x → b ≡ y → IsNextCivil f a b n → IsNextCivil g x y n
same_next f g a b x y n e p q h = subst (λ k. IsNextCivil k x y n) e (subst (λ k. IsNextCivil f k y n) p (subst (λ k. IsNextCivil f a k n) q h))

pub counted_at : (n : ℕ) (a o a' o' : ℤ) → n ≡ natural_of (a' +ℤ o') → a' ≡ a → o' ≡ o → n ≡ natural_of (a +ℤ o)
counted_at n a o a' o' is e g = is ∙ ap (λ k. natural_of (k +ℤ o')) e ∙ ap (λ k. natural_of (a +ℤ k)) g

pub instant_is : (r v : ℤ) (n : ℕ) (o o' : ℤ) → v ≡ pos n -ℤ o' → o' ≡ o → r ≡ v → r ≡ pos n -ℤ o
instant_is r v n o o' is e g = g ∙ is ∙ ap (λ k. pos n -ℤ k) e

pub civil_bound : (n end : ℕ) (x : ℤ) → n < end → end ≡ natural_of x → x ≤ℤ pos 10_000_000_000 → n ≤ 10_000_000_000
civil_bound n end x less is h = count_bound x n h (omega (arith, less, is))

pub shown_bound : (end o : ℤ) → end ≤ℤ end_of_schedules → IsOffsetSeconds o → (end +ℤ o) ≤ℤ pos 10_000_000_000
shown_bound end o h g = omega (arith, signed_arith, h, g)

pub far_back : (v : ℤ) → IsBetween (neg_ℤ (pos 1_000_000)) (pos 20_000_000_000) v → to_z w64 (of_z w64 v) ≡ v
far_back v h = back v (omega (arith, signed_arith, h)) (omega (arith, signed_arith, h))

pub start_back : (r : ℤ) → neg_ℤ (pos 93_599) ≤ℤ r → r ≤ℤ end_of_schedules → to_z w64 (of_z w64 r) ≡ r
start_back r low high = back r (omega (arith, signed_arith, low)) (omega (arith, signed_arith, high))

pub piece_ends : (at end : ℤ) → neg_ℤ (pos 93_599) ≤ℤ at → at <ℤ end → end ≤ℤ end_of_schedules → Ends at end
piece_ends at end low up last = (low, up, last)

pub next_early : (at end : ℤ) → Ends at end → neg_ℤ (pos 93_599) ≤ℤ end
next_early at end h = omega (arith, signed_arith, h)

pub next_later : (after at end : ℤ) → after <ℤ at → Ends at end → after <ℤ end
next_later after at end up h = omega (arith, signed_arith, up, h)

pub first_back : (r : ℤ) → r ≡ neg_ℤ (pos 93_599) → to_z w64 (of_z w64 r) ≡ r
first_back r is = back r (omega (arith, signed_arith, is)) (omega (arith, signed_arith, is))
