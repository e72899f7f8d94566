use Rattle.std.proofs.Common.{◌≡◌, ◌≢◌, ◌==◌, ℕ, List, false, [], ◌∷◌, ◌++◌, append_assoc, sym, ap, length, arith, rules}
use Rattle.rb_option.specs.Parting.{part, whole}
use Rattle.rb_option.proofs.Parts.{found_part, parts_are_parted}
use Rattle.rb_option.proofs.parting.parts_at.Goals as goal

not_empty : (xs : List ℕ) → (length xs == 0) ≡ false → xs ≢ []
not_empty [] e = let never : ⊥ = cc in absurd never
not_empty (x ∷ xs) e = λ is. let none : length (x ∷ xs) ≡ 0 = ap length is in omega (arith, none)

pub loop-part-preserved : goal.loop-part-preserved
loop-part-preserved c = (
  search rules,
  λ more h.
      let found = found_part c.args.delimiter.now c.loop-part.rest.now c.in-Some.part.now c.in-Some.behind.now c.in-Some.ensures.cases in
      let all = c.loop-part.invariant.1 (c.in-Some.part.now ∷ more) (part c.in-Some.part.now c.in-Some.behind.now found.0 found.1 h) in
      rw (c.in_ok-push-2.ensures.items, c.in_ok-of-2.ensures, append_assoc c.loop-part.parts.items (c.in-Some.part.now ∷ []) more) all,
)

pub returns : goal.returns
returns c =
    let all = c.loop-part.invariant.1 (c.loop-part.rest.now ∷ []) (whole c.in_default.ensures.cases) in
    let is = parts_are_parted c.args.delimiter.now c.args.text.now (c.loop-part.parts.items ++ c.loop-part.rest.now ∷ [])
    (not_empty c.args.delimiter.now (rw c.is_empty.ensures at c.if-is_empty.false)) all in
    rw (c.in_ok-push-3.ensures.items, c.in_ok-of-3.ensures) (sym is)
