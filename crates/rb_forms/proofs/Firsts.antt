-- Where the first of a list alone was changed.
use Rattle.std.proofs.Common.{
  ◌≡◌,
  ◌<◌,
  ℕ,
  List,
  [],
  ◌∷◌,
  length,
  map,
  slice_set,
  get_or,
  ap,
  Option,
  sym,
  arith,
}
use Rattle.rb_causes.specs.Callers.{Callers}
use Rattle.rb_session_top.specs.Sights.{callers_sight}
use Rattle.rb_forms.specs.Forms.{FirstAlone, lines_sight}

pub first_alone : {A B : Type 0} (f : A → B) (old new : List A) (before after : A)
    → 0 < length old → before ≡ get_or old 0 before → new ≡ slice_set old 0 after
    → FirstAlone (map f old) (map f new) (f before) (f after)
first_alone f [] new before after low read put = absurd (omega (arith, low))
first_alone f (x ∷ xs) new before after low read put = record {
  others = map f xs;
  was = ap (λ y. f y ∷ map f xs) (sym read);
  is = ap (map f) put;
}

-- the same of lines
pub first_line : {L : Type 0} (callers : L → Option Callers) (faults : L → ℕ) (old new : List L)
    → (before after : L) → 0 < length old → before ≡ get_or old 0 before
    → new ≡ slice_set old 0 after
    → FirstAlone (lines_sight callers faults old) (lines_sight callers faults new)
    (callers_sight (callers before) (faults before)) (callers_sight (callers after) (faults after))
first_line callers faults =
    first_alone (λ line. callers_sight (callers line) (faults line))
