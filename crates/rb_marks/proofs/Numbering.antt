-- The slots of different steps are different, where they are numbered in order.
use Rattle.std.proofs.Common.{◌≡◌, ℕ, ◌+◌, ◌<◌, ◌≤◌, Bool, true, false, ◌||◌, inl, inr, nat_eq, zero, suc, Option, Some, None, cond, List, [], ◌∷◌, take, drop, sym, ap, ◌∙◌, arith, refl}
use Rattle.std.proofs.lemmas.Bool.{or_cases, or_left, eqb-true, false≢true}
use Rattle.rb_marks.specs.Tree.{Tree, slot, sub, Branches, no_branch, branch}
use Rattle.rb_marks.specs.View.{Branch, branches_of}
use Rattle.rb_marks.specs.Units.{is_slot, act_holds, steps_hold}
use Rattle.rb_marks.specs.Sound.{number_handler, then_number, number_act, numbered}
use Rattle.rb_marks.proofs.Counts.{or_true, or_false}

-- the slots that pass lie from n on and before m
pub record IsWithin (n m : ℕ) (test : ℕ → Bool) : Type 0 where
  pub order : n ≤ m
  pub bounds : (k : ℕ) → test k ≡ true → (n ≤ k) × (k < m)

slot_within : (j n m : ℕ) (same : Bool) → nat_eq j n ≡ same → cond same (Some (n + 1)) None ≡ Some m
    → IsWithin n m (is_slot (Some j))
slot_within j n m false s e = absurd (cc)
slot_within j n m true s e =
    let here : j ≡ n = eqb-true j n s in
    let next : n + 1 ≡ m = cc in
    record {
      order = omega (arith, next);
      bounds = λ k h. let at : j
          ≡ k = eqb-true j k h in (omega (arith, here, at), omega (arith, here, at, next));
    }

handler_within : (handler : Option ℕ) (n m : ℕ) → number_handler handler n ≡ Some m
    → IsWithin n m (is_slot handler)
handler_within None n m e = let same : n ≡ m = cc in
    record { order = omega arith; bounds = λ k h. absurd (false≢true h) }
handler_within (Some j) n m e = slot_within j n m (nat_eq j n) refl e

then_some : (o : Option ℕ) (f : ℕ → Option ℕ) (m : ℕ) → then_number o f ≡ Some m → (x : ℕ)
    × (o ≡ Some x) × (f x ≡ Some m)
then_some None f m e = absurd (cc)
then_some (Some x) f m e = (x, refl, e)

either_within : (n x m : ℕ) (f g : ℕ → Bool) → IsWithin n x f → IsWithin x m g
    → IsWithin n m (λ k. f k || g k)
either_within n x m f g a b =
    record {
      order = omega (arith, a.order, b.order);
      bounds = λ k h. elim (or_cases (f k) (g k) h) [
        | inl here ↦ let r = a.bounds k here in (r.0, omega (arith, r.1, b.order))
        | inr there ↦ let r = b.bounds k there in (omega (arith, r.0, a.order), r.1)
      ];
    }

mutual
  act_within : (act : Tree) (n m : ℕ) → number_act act n ≡ Some m → IsWithin n m (act_holds act)
  act_within (slot j) n m e = let w = handler_within (Some j) n m e in
      record { order = w.order; bounds = w.bounds }
  act_within (sub keepgoing steps) n m e = let w = steps_within steps n m e in
      record { order = w.order; bounds = w.bounds }

  pub steps_within : (steps : Branches) (n m : ℕ) → numbered steps n ≡ Some m
      → IsWithin n m (steps_hold steps)
  steps_within no_branch n m e = let same : n ≡ m = cc in
      record { order = omega arith; bounds = λ k h. absurd (false≢true h) }
  steps_within (branch act handler keep steps) n m e =
      let y = then_some (then_number (number_act act n) (number_handler handler))
      (numbered steps) m e in
      let x = then_some (number_act act n) (number_handler handler) y.0 y.1 in
      let here = either_within n x.0 y.0 (act_holds act) (is_slot handler)
      (act_within act n x.0 x.1) (handler_within handler x.0 y.0 x.2) in
      let w = either_within n y.0 m (λ k. act_holds act k || is_slot handler k)
      (steps_hold steps) here (steps_within steps y.0 m y.2) in
      record { order = w.order; bounds = w.bounds }

-- the number behind the first step
first_within : (b : Branch) (bs : List Branch) (n m : ℕ) → numbered (branches_of (b ∷ bs)) n
    ≡ Some m
    → (y : ℕ) × IsWithin n y (λ k. act_holds b.0 k || is_slot b.1 k)
    × (numbered (branches_of bs) y ≡ Some m)
first_within b bs n m e =
    let y = then_some (then_number (number_act b.0 n) (number_handler b.1))
    (numbered (branches_of bs)) m e in
    let x = then_some (number_act b.0 n) (number_handler b.1) y.0 y.1 in (
      y.0,
      either_within n x.0 y.0 (act_holds b.0) (is_slot b.1) (act_within b.0 n x.0 x.1)
          (handler_within b.1 x.0 y.0 x.2),
      y.2,
    )

at_one : (bs : List Branch) (s k : ℕ) → steps_hold (branches_of (take 1 (drop s bs))) k ≡ true
    → steps_hold (branches_of bs) k ≡ true
at_one [] zero k e = e
at_one [] (suc s) k e = e
at_one (b ∷ bs) zero k e = or_left (act_holds b.0 k || is_slot b.1 k)
    (steps_hold (branches_of bs) k) (sym (or_false (act_holds b.0 k || is_slot b.1 k)) ∙ e)
at_one (b ∷ bs) (suc s) k e = ap (λ v. (act_holds b.0 k || is_slot b.1 k) || v) (at_one bs s k e)
    ∙ or_true (act_holds b.0 k || is_slot b.1 k)

-- a slot is of one step
pub one_step : (bs : List Branch) (n m : ℕ) → numbered (branches_of bs) n ≡ Some m → (s t k : ℕ)
    → steps_hold (branches_of (take 1 (drop s bs))) k ≡ true
    → steps_hold (branches_of (take 1 (drop t bs))) k ≡ true → s ≡ t
one_step [] n m e zero t k a b = absurd (false≢true a)
one_step [] n m e (suc s) t k a b = absurd (false≢true a)
one_step (b ∷ bs) n m e zero zero k h g = refl
one_step (b ∷ bs) n m e zero (suc t) k h g =
    let y = first_within b bs n m e in
    let here = y.1.bounds k (sym (or_false (act_holds b.0 k || is_slot b.1 k)) ∙ h) in
    let there = (steps_within (branches_of bs) y.0 m y.2).bounds k (at_one bs t k g) in
    absurd (omega (arith, here.1, there.0))
one_step (b ∷ bs) n m e (suc s) zero k h g =
    let y = first_within b bs n m e in
    let here = y.1.bounds k (sym (or_false (act_holds b.0 k || is_slot b.1 k)) ∙ g) in
    let there = (steps_within (branches_of bs) y.0 m y.2).bounds k (at_one bs s k h) in
    absurd (omega (arith, here.1, there.0))
one_step (b ∷ bs) n m e (suc s) (suc t) k h g = let y = first_within b bs n m e in
    ap suc (one_step bs y.0 m y.2 s t k h g)
