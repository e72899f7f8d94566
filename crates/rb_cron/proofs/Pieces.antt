-- Between two edges of a zone nothing changes: the offset, and the offset that the zone gives.
use Rattle.std.proofs.Common.{◌≡◌, ℤ, ◌-ℤ◌, ◌≤ℤ◌, ◌<ℤ◌, Bool, true, false, not, ◌&&◌, int_le, int_lt, Option, Some, None, if◌then◌else◌, arith, refl, ap, sym, ◌∙◌, inl, inr}
use Rattle.std.specs.Prelude.{◌⊎◌}
use Rattle.jiff.proofs.SpanFacts.{signed_arith}
use Rattle.jiff_core.specs.Timestamp.{nanos_of_seconds}
use Rattle.jiff_tz.specs.PosixRule.{in_window, in_span, saturating_add, saturating_sub}
use Rattle.jiff_tz.specs.PosixText.{DstText}
use Rattle.jiff_tz.specs.Year.{year_of_nanos}
use Rattle.rb_cron.specs.Clock.{utc_window, wall_window, offset_by, given_ahead, given_behind, offset_given}

-- two moments lie on one side of an edge, the first being the earlier one
abbrev pub Beside : ℤ → ℤ → ℤ → Type 0
Beside edge a t = (edge ≤ℤ a) ⊎ (t <ℤ edge)

le_yes : (a b : ℤ) → a ≤ℤ b → int_le a b ≡ true
le_yes a b h = elim (int_le a b) as (λ v. int_le a b ≡ v → v ≡ true) [
  | true ↦ λ e. refl
  | false ↦ λ e. absurd (omega (arith, signed_arith, e, h))
] refl

le_no : (a b : ℤ) → b <ℤ a → int_le a b ≡ false
le_no a b h = elim (int_le a b) as (λ v. int_le a b ≡ v → v ≡ false) [
  | true ↦ λ e. absurd (omega (arith, signed_arith, e, h))
  | false ↦ λ e. refl
] refl

pub lt_yes : (a b : ℤ) → a <ℤ b → int_lt a b ≡ true
lt_yes a b h = elim (int_lt a b) as (λ v. int_lt a b ≡ v → v ≡ true) [
  | true ↦ λ e. refl
  | false ↦ λ e. absurd (omega (arith, signed_arith, e, h))
] refl

pub lt_no : (a b : ℤ) → b ≤ℤ a → int_lt a b ≡ false
lt_no a b h = elim (int_lt a b) as (λ v. int_lt a b ≡ v → v ≡ false) [
  | true ↦ λ e. absurd (omega (arith, signed_arith, e, h))
  | false ↦ λ e. refl
] refl

le_same : (edge a t : ℤ) → a ≤ℤ t → Beside edge a t → int_le edge a ≡ int_le edge t
le_same edge a t up side = elim side [
  | inl at ↦ le_yes edge a at ∙ sym (le_yes edge t (omega (arith, signed_arith, at, up)))
  | inr less ↦ le_no edge a (omega (arith, signed_arith, less, up)) ∙ sym (le_no edge t less)
]

lt_same : (edge a t : ℤ) → a ≤ℤ t → Beside edge a t → int_lt a edge ≡ int_lt t edge
lt_same edge a t up side = elim side [
  | inl at ↦ lt_no a edge at ∙ sym (lt_no t edge (omega (arith, signed_arith, at, up)))
  | inr less ↦ lt_yes a edge (omega (arith, signed_arith, less, up)) ∙ sym (lt_yes t edge less)
]

span_same : (low high a t : ℤ) → a ≤ℤ t → Beside low a t → Beside high a t → in_span low high a ≡ in_span low high t
span_same low high a t up at_low at_high =
    ap (λ b. b && int_lt a high) (le_same low a t up at_low) ∙ ap (λ b. int_le low t && b) (lt_same high a t up at_high)

window_same : (w : ℤ × ℤ) (a t : ℤ) → a ≤ℤ t → Beside w.0 a t → Beside w.1 a t → in_window w a ≡ in_window w t
window_same w a t up start end =
    ap (λ b. if int_le w.0 w.1 then b else not (in_span w.1 w.0 a)) (span_same w.0 w.1 a t up start end)
    ∙ ap (λ b. if int_le w.0 w.1 then in_span w.0 w.1 t else not b) (span_same w.1 w.0 a t up end start)

-- the offset stays, where both moments lie in one year at UTC and beside the ends of its window
pub offset_same : (std : ℤ) (summer : DstText) (y a t : ℤ) → a ≤ℤ t → year_of_nanos a ≡ y → year_of_nanos t ≡ y
    → Beside (utc_window std summer y).0 a t → Beside (utc_window std summer y).1 a t
    → offset_by std (Some summer) a ≡ offset_by std (Some summer) t
offset_same std summer y a t up in_a in_t start end =
    ap (λ k. if in_window (utc_window std summer k) a then summer.seconds else std) in_a
    ∙ ap (λ b. if b then summer.seconds else std) (window_same (utc_window std summer y) a t up start end)
    ∙ sym (ap (λ k. if in_window (utc_window std summer k) t then summer.seconds else std) in_t)

-- the edges of a window on the wall clock: its ends, and these moved by the shift
pub record BesideAll (w : ℤ × ℤ) (shift a t : ℤ) : Type 0 where
  pub start : Beside w.0 a t
  pub end : Beside w.1 a t
  pub moved_start : Beside (saturating_add w.0 shift) a t
  pub moved_end : Beside (saturating_sub w.1 shift) a t

ahead_same : (std summer shift : ℤ) (w : ℤ × ℤ) (a t : ℤ) → a ≤ℤ t → BesideAll w shift a t → given_ahead std summer shift w a ≡ given_ahead std summer shift w t
ahead_same std summer shift w a t up h =
    ap (λ b. if not b then Some std else (if in_span w.0 (saturating_add w.0 shift) a then None else Some summer)) (window_same w a t up h.start h.end)
    ∙ ap (λ b. if not (in_window w t) then Some std else (if b then None else Some summer)) (span_same w.0 (saturating_add w.0 shift) a t up h.start h.moved_start)

behind_same : (std summer shift : ℤ) (w : ℤ × ℤ) (a t : ℤ) → a ≤ℤ t → BesideAll w shift a t → given_behind std summer shift w a ≡ given_behind std summer shift w t
behind_same std summer shift w a t up h =
    ap (λ b. if b then Some summer else (if in_span (saturating_add w.0 shift) w.0 a then Some std else (if in_span w.1 (saturating_sub w.1 shift) a then None else Some std))) (window_same w a t up h.start h.end)
    ∙ ap (λ b. if in_window w t then Some summer else (if b then Some std else (if in_span w.1 (saturating_sub w.1 shift) a then None else Some std))) (span_same (saturating_add w.0 shift) w.0 a t up h.moved_start h.start)
    ∙ ap (λ b. if in_window w t then Some summer else (if in_span (saturating_add w.0 shift) w.0 t then Some std else (if b then None else Some std))) (span_same w.1 (saturating_sub w.1 shift) a t up h.end h.moved_end)

abbrev pub shift_of : ℤ → DstText → ℤ
shift_of std summer = nanos_of_seconds summer.seconds -ℤ nanos_of_seconds std

choice : (b c : Bool) (x x' y y' z : Option ℤ) → x ≡ x' → y ≡ y' → (if b then x else (if c then y else z)) ≡ (if b then x' else (if c then y' else z))
choice true c x x' y y' z e g = e
choice false true x x' y y' z e g = g
choice false false x x' y y' z e g = refl

-- the offset that the zone gives stays, where both moments lie beside the edges of one year
pub given_same : (std : ℤ) (summer : DstText) (y a t : ℤ) → a ≤ℤ t → BesideAll (wall_window summer y) (shift_of std summer) a t
    → offset_given std (Some summer) y a ≡ offset_given std (Some summer) y t
given_same std summer y a t up h = choice (int_lt summer.seconds std) (int_lt std summer.seconds) _ _ _ _ (Some std)
    (behind_same std summer.seconds (shift_of std summer) (wall_window summer y) a t up h)
    (ahead_same std summer.seconds (shift_of std summer) (wall_window summer y) a t up h)
