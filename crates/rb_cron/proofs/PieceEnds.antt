-- Pieces of time by whole seconds, and the least due instant of a piece.
use Rattle.std.proofs.Common.{◌≡◌, ℕ, ℤ, pos, negsuc, ◌+ℤ◌, ◌-ℤ◌, ◌≤ℤ◌, ◌<ℤ◌, true, false, int_lt, Some, None, if◌then◌else◌, arith, refl, ap, ◌∙◌, inl, inr}
use Rattle.std.specs.Prelude.{◌⊎◌}
use Rattle.jiff.proofs.SpanFacts.{signed_arith}
use Rattle.jiff_core.specs.Timestamp.{nanos_of_seconds}
use Rattle.jiff_tz.specs.PosixRule.{clamp_to, saturating_add, saturating_sub, civil_min, civil_max}
use Rattle.jiff_tz.specs.PosixText.{TzText}
use Rattle.rb_cron.specs.Civil.{civil_of}
use Rattle.rb_cron.specs.Clock.{offset_at, given_offset}
use Rattle.rb_cron.specs.Due.{is_due_when, civil_at, meets}
use Rattle.rb_cron.specs.declared.fields.Fields.{Fields}
use Rattle.rb_cron.proofs.Agreeing.{due_where_given}
use Rattle.rb_cron.specs.Days.{NoneMeet}
use Rattle.rb_cron.proofs.Pieces.{Beside, lt_no}

-- an edge by its first whole second
pub beside_seconds : (edge s a t : ℤ) → edge ≤ℤ nanos_of_seconds s → (nanos_of_seconds s -ℤ pos 1_000_000_000) <ℤ edge
    → (s ≤ℤ a) ⊎ (t <ℤ s) → Beside edge (nanos_of_seconds a) (nanos_of_seconds t)
beside_seconds edge s a t low high side = elim side [
  | inl at ↦ inl (omega (arith, signed_arith, low, at))
  | inr less ↦ inr (omega (arith, signed_arith, high, less))
]

pub within : (low high n : ℤ) → low ≤ℤ n → n ≤ℤ high → clamp_to low high n ≡ n
within low high n from to =
    ap (λ b. if b then low else (if int_lt high n then high else n)) (lt_no n low from)
    ∙ ap (λ b. if b then high else n) (lt_no high n to)

-- a shift of a moment stays within the civil datetimes in all years of schedules
pub shift_is_sum : (n d : ℤ) → civil_min ≤ℤ (n +ℤ d) → (n +ℤ d) ≤ℤ civil_max → saturating_add n d ≡ n +ℤ d
shift_is_sum n d from to = within civil_min civil_max (n +ℤ d) from to

pub shift_is_difference : (n d : ℤ) → civil_min ≤ℤ (n -ℤ d) → (n -ℤ d) ≤ℤ civil_max → saturating_sub n d ≡ n -ℤ d
shift_is_difference n d from to = within civil_min civil_max (n -ℤ d) from to

-- clock and zone agree on this offset in a piece
pub record Agrees (z : TzText) (o a b : ℤ) : Type 0 where
  pub shown : (t : ℤ) → a ≤ℤ t → t <ℤ b → offset_at z (nanos_of_seconds t) ≡ o
  pub given : (t : ℤ) (n : ℕ) → a ≤ℤ t → t <ℤ b → t +ℤ o ≡ pos n
      → given_offset z (pos (civil_of n).year) (nanos_of_seconds (pos n)) ≡ Some o

-- under a rule without summer time all is one piece
pub always_agrees : (z : TzText) (a b : ℤ) → z.dst ≡ None → Agrees z z.std_seconds a b
always_agrees z a b none = record {
  shown = λ t low high. rw none refl;
  given = λ t n low high at. rw none refl;
}

not_due_at : (z : TzText) (f : Fields) (o a b t c : ℤ) (from n : ℕ) → Agrees z o a b → a +ℤ o ≡ pos from → NoneMeet f from n
    → a ≤ℤ t → t <ℤ b → t +ℤ o ≡ c → c <ℤ pos n → is_due_when z f (civil_at z t) t ≡ false
not_due_at z f o a b t (pos k) from n agrees start none low high at less =
    due_where_given z f o t k (agrees.shown t low high) at (agrees.given t k low high at)
    ∙ none k (omega (arith, signed_arith, start, at, low)) (omega (arith, signed_arith, less))
not_due_at z f o a b t (negsuc k) from n agrees start none low high at less = absurd (omega (arith, signed_arith, start, at, low))

-- in a piece nothing is due before the least civil time that meets the fields
pub none_due_before : (z : TzText) (f : Fields) (o a b : ℤ) (from n : ℕ) → Agrees z o a b → a +ℤ o ≡ pos from → NoneMeet f from n
    → (t : ℤ) → a ≤ℤ t → t <ℤ b → (t +ℤ o) <ℤ pos n → is_due_when z f (civil_at z t) t ≡ false
none_due_before z f o a b from n agrees start none t low high less = not_due_at z f o a b t (t +ℤ o) from n agrees start none low high refl less

-- and that is due
pub due_at_least : (z : TzText) (f : Fields) (o a b t : ℤ) (n : ℕ) → Agrees z o a b → a ≤ℤ t → t <ℤ b → t +ℤ o ≡ pos n
    → meets f (civil_of n) ≡ true → is_due_when z f (civil_at z t) t ≡ true
due_at_least z f o a b t n agrees low high at meets_it =
    due_where_given z f o t n (agrees.shown t low high) at (agrees.given t n low high at) ∙ meets_it
