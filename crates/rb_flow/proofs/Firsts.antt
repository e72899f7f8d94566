-- The first unit of all is the lesser of the first that may go on and the first that may open.
use Rattle.std.proofs.Common.{◌≡◌, ℕ, ◌<◌, Bool, true, false, not, ◌||◌, ◌&&◌, inl, inr, zero, suc, cond, min, Option, Some, None, List, [], ◌∷◌, length, get_or, sym, ap, ◌∙◌, arith, refl}
use Rattle.std.proofs.lemmas.Bool.{cases_lt, or_from, or_left, or_right}
use Rattle.rb_marks.specs.Units.{Outline}
use Rattle.rb_marks.specs.declared.units.WorkUnit.{WorkUnit}
use Rattle.rb_flow.specs.declared.unit_state.UnitState.{UnitState}
use Rattle.rb_flow.specs.Choice.{may_go_by, first_by}
use Rattle.rb_flow.specs.Order.{passes_at, IsFirstPlace, may_go_on, may_enter, lesser_place}
use Rattle.rb_flow.proofs.Seats.{At, at_less, at_read, passing}

either : (opened goes : Bool) → goes ≡ (opened && goes || not opened && goes)
either true true = refl
either true false = refl
either false goes = refl

goes_either : (p : Outline) (all ss : List UnitState) (i : ℕ) → passes_at (may_go_by p all) ss i
    ≡ (passes_at (may_go_on p all) ss i || passes_at (may_enter p all) ss i)
goes_either p all [] i = refl
goes_either p all (s ∷ ss) zero = either s.opened (may_go_by p all s)
goes_either p all (s ∷ ss) (suc i) = goes_either p all ss i

neither : (p : Outline) (all ss : List UnitState) (i : ℕ) → passes_at (may_go_on p all) ss i ≡ false
    → passes_at (may_enter p all) ss i ≡ false → passes_at (may_go_by p all) ss i ≡ false
neither p all ss i e f = goes_either p all ss i
    ∙ or_from (passes_at (may_go_on p all) ss i) (passes_at (may_enter p all) ss i) e f

-- the test that either passes
pub first_of_both : (p : Outline) (all ss : List UnitState) (a b : Option ℕ)
    → IsFirstPlace (may_go_on p all) ss a → IsFirstPlace (may_enter p all) ss b
    → IsFirstPlace (may_go_by p all) ss (lesser_place a b)
first_of_both p all ss None None f g = λ i. neither p all ss i (f i) (g i)
first_of_both p all ss None (Some y) f g = (
  goes_either p all ss y
      ∙ or_right (passes_at (may_go_on p all) ss y) (passes_at (may_enter p all) ss y) g.0,
  λ i l. neither p all ss i (f i) (g.1 i l),
)
first_of_both p all ss (Some x) None f g = (
  goes_either p all ss x
      ∙ or_left (passes_at (may_go_on p all) ss x) (passes_at (may_enter p all) ss x) f.0,
  λ i l. neither p all ss i (f.1 i l) (g i),
)
first_of_both p all ss (Some x) (Some y) f g = elim (cases_lt x y) [
  | inl less ↦
      let e : min x y ≡ x = omega (arith, less) in
      rw e (
        goes_either p all ss x
            ∙ or_left (passes_at (may_go_on p all) ss x) (passes_at (may_enter p all) ss x) f.0,
        λ i l. neither p all ss i (f.1 i l) (g.1 i (omega (arith, l, less))),
      )
  | inr more ↦
      let e : min x y ≡ y = omega (arith, more) in
      rw e (
        goes_either p all ss y
            ∙ or_right (passes_at (may_go_on p all) ss y) (passes_at (may_enter p all) ss y) g.0,
        λ i l. neither p all ss i (f.1 i (omega (arith, l, more))) (g.1 i l),
      )
]

-- none may go
pub none_first : (p : Outline) (all ws : List UnitState)
    → ((i : ℕ) → passes_at (may_go_by p all) ws i ≡ false) → None ≡ first_by p all ws
none_first p all [] f = refl
none_first p all (w ∷ ws) f =
    none_first p all ws (λ i. f (suc i))
    ∙ sym (ap (λ b. cond b (Some w.unit) (first_by p all ws)) (f 0))

-- this one is the first
pub some_first : (p : Outline) (all ws : List UnitState) (n : ℕ) (w : UnitState) → At ws n w
    → passes_at (may_go_by p all) ws n ≡ true
    → ((i : ℕ) → i < n → passes_at (may_go_by p all) ws i ≡ false)
    → Some w.unit ≡ first_by p all ws
some_first p all [] n w h e f = absurd h
some_first p all (v ∷ ws) zero w h e f =
    ap {B = Option WorkUnit} (λ (s : UnitState). Some s.unit) (sym h)
    ∙ sym (ap (λ b. cond b (Some v.unit) (first_by p all ws)) e)
some_first p all (v ∷ ws) (suc n) w h e f =
    some_first p all ws n w h e (λ i l. f (suc i) (omega (arith, l)))
    ∙ sym (ap (λ b. cond b (Some v.unit) (first_by p all ws)) (f 0 (omega arith)))

pub first_within : (p : Outline) (all ss : List UnitState) (n : ℕ)
    → IsFirstPlace (may_go_by p all) ss (Some n) → n < length ss
first_within p all ss n f = let r = passing (may_go_by p all) ss n f.0 in
    at_less ss n r.0 r.1

pub first_is : (p : Outline) (all : List UnitState) (n : ℕ) (w : UnitState)
    → IsFirstPlace (may_go_by p all) all (Some n) → w ≡ get_or all n w
    → Some w.unit ≡ first_by p all all
first_is p all n w f e =
    some_first p all all n w (at_read all n w (first_within p all all n f) e) f.0 f.1
