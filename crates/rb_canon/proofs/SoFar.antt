-- Pieces that are put one behind the other.
use Rattle.std.proofs.Common.{◌≡◌, ◌≤◌, ℕ, List, [], ◌++◌, length, Result, Ok, Err, refl, sym, ap, subst, ◌∙◌, arith, append_assoc, append-nil, length-append}
use Rattle.rb_canon.specs.declared.canon_err.CanonErr.{CanonErr}
use Rattle.rb_canon.specs.Layout.{most_bytes}
use Rattle.rb_canon.specs.Puts.{Puts}

-- of a whole piece this rest is still to be put
pub record SoFar (whole rest before now : List ℕ) : Type 0 where
  pub done : List ℕ
  pub parts : whole ≡ done ++ rest
  pub put : now ≡ before ++ done
  pub short : length before ≤ most_bytes → length now ≤ most_bytes

pub so_far_none : (whole before : List ℕ) → SoFar whole whole before before
so_far_none whole before = record { done = []; parts = refl; put = sym (append-nil before); short = λ h. h }

pub so_far_more : (whole piece rest before now after : List ℕ) (u : Unit {0}) → SoFar whole (piece ++ rest) before now → Puts piece now after (Ok u) → SoFar whole rest before after
so_far_more whole piece rest before now after u s p = record {
  done = s.done ++ piece;
  parts = s.parts ∙ sym (append_assoc s.done piece rest);
  put = p.ok ∙ ap (λ (xs : List ℕ). xs ++ piece) s.put ∙ append_assoc before s.done piece;
  short = λ h. p.short (s.short h);
}

pub so_far_stop : (whole piece rest before now after : List ℕ) (e : CanonErr) → SoFar whole (piece ++ rest) before now → Puts piece now after (Err e) → Puts whole before after (Err e)
so_far_stop whole piece rest before now after e s p = record {
  ok = tt;
  short = tt;
  large = λ q.
      let over = p.large q in
      let a : length whole ≡ length (s.done ++ (piece ++ rest)) = ap length s.parts in
      let b = length-append s.done (piece ++ rest) in
      let c = length-append piece rest in
      let d : length now ≡ length (before ++ s.done) = ap length s.put in
      let f = length-append before s.done in
      omega arith;
}

pub so_far_end : (whole before now : List ℕ) (u : Unit {0}) → SoFar whole [] before now → Puts whole before now (Ok u)
so_far_end whole before now u s = record {
  ok = s.put ∙ ap (λ (xs : List ℕ). before ++ xs) (sym (s.parts ∙ append-nil s.done));
  short = s.short;
  large = λ q. absurd (cc);
}

pub so_far_last : (whole piece before now after : List ℕ) (r : Result (Unit {0}) CanonErr) → SoFar whole piece before now → Puts piece now after r → Puts whole before after r
so_far_last whole piece before now after (Ok u) s p =
    so_far_end whole before after u (so_far_more whole piece [] before now after u (subst (λ (rest : List ℕ). SoFar whole rest before now) (sym (append-nil piece)) s) p)
so_far_last whole piece before now after (Err e) s p =
    so_far_stop whole piece [] before now after e (subst (λ (rest : List ℕ). SoFar whole rest before now) (sym (append-nil piece)) s) p
