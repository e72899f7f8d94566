-- What is due in a piece of time in which neither the offset nor the given offset changes.
use Rattle.std.proofs.Common.{◌≡◌, ◌≢◌, ℕ, ℤ, pos, negsuc, ◌+ℤ◌, ◌-ℤ◌, Bool, true, false, ◌&&◌, Some, None, arith, refl, ap, sym, ◌∙◌}
use Rattle.std.proofs.lemmas.Int.{ints}
use Rattle.std.proofs.Math.Bool.{and-false}
use Rattle.jiff.proofs.SpanFacts.{signed_arith}
use Rattle.jiff_core.specs.Timestamp.{nanos_of_seconds}
use Rattle.jiff_tz.specs.PosixText.{TzText}
use Rattle.rb_cron.specs.Civil.{civil_of}
use Rattle.rb_cron.specs.Clock.{offset_at, given_offset}
use Rattle.rb_cron.specs.Due.{is_due_when, is_instant, civil_at, meets}
use Rattle.rb_cron.specs.declared.fields.Fields.{Fields}

pub own_instant : (o t : ℤ) → is_instant (Some o) (t +ℤ o) t ≡ true
own_instant o t = let e : t +ℤ o -ℤ o ≡ t = omega (arith, signed_arith) in grind (arith, ints, e)

pub other_instant : (o g t : ℤ) → g ≢ o → is_instant (Some g) (t +ℤ o) t ≡ false
other_instant o g t differs = let e : t +ℤ o -ℤ g ≢ t = λ same. differs (omega (arith, signed_arith, same)) in grind (arith, ints, e)

and_true : (b : Bool) → (b && true) ≡ b
and_true true = refl
and_true false = refl

-- where the zone gives the offset that the clock has, what meets the fields is due
pub due_where_given : (z : TzText) (f : Fields) (o t : ℤ) (n : ℕ) → offset_at z (nanos_of_seconds t) ≡ o → t +ℤ o ≡ pos n
    → given_offset z (pos (civil_of n).year) (nanos_of_seconds (pos n)) ≡ Some o
    → is_due_when z f (civil_at z t) t ≡ meets f (civil_of n)
due_where_given z f o t n is shown given =
    ap (λ c. is_due_when z f c t) (ap (λ k. t +ℤ k) is ∙ shown)
    ∙ ap (λ b. meets f (civil_of n) && b) (ap (λ g. is_instant g (pos n) t) given ∙ ap (λ c. is_instant (Some o) c t) (sym shown) ∙ own_instant o t)
    ∙ and_true (meets f (civil_of n))

-- where it gives none, or another, nothing is due
pub none_where_none : (z : TzText) (f : Fields) (o t : ℤ) (n : ℕ) → offset_at z (nanos_of_seconds t) ≡ o → t +ℤ o ≡ pos n
    → given_offset z (pos (civil_of n).year) (nanos_of_seconds (pos n)) ≡ None
    → is_due_when z f (civil_at z t) t ≡ false
none_where_none z f o t n is shown given =
    ap (λ c. is_due_when z f c t) (ap (λ k. t +ℤ k) is ∙ shown)
    ∙ ap (λ b. meets f (civil_of n) && b) (ap (λ g. is_instant g (pos n) t) given)
    ∙ and-false (meets f (civil_of n))

pub none_where_other : (z : TzText) (f : Fields) (o g t : ℤ) (n : ℕ) → offset_at z (nanos_of_seconds t) ≡ o → t +ℤ o ≡ pos n → g ≢ o
    → given_offset z (pos (civil_of n).year) (nanos_of_seconds (pos n)) ≡ Some g
    → is_due_when z f (civil_at z t) t ≡ false
none_where_other z f o g t n is shown differs given =
    ap (λ c. is_due_when z f c t) (ap (λ k. t +ℤ k) is ∙ shown)
    ∙ ap (λ b. meets f (civil_of n) && b) (ap (λ x. is_instant x (pos n) t) given ∙ ap (λ c. is_instant (Some g) c t) (sym shown) ∙ other_instant o g t differs)
    ∙ and-false (meets f (civil_of n))

-- a clock that shows a time before 1970 shows nothing that is due
pub none_before : (z : TzText) (f : Fields) (t : ℤ) (n : ℕ) → civil_at z t ≡ negsuc n → is_due_when z f (civil_at z t) t ≡ false
none_before z f t n shown = ap (λ c. is_due_when z f c t) shown
