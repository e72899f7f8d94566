-- The first flaw of several lists of flaws, one behind the other.
use Rattle.std.proofs.Common.{
  ◌≡◌,
  ◌∙◌,
  ℕ,
  ◌+◌,
  true,
  false,
  List,
  [],
  ◌∷◌,
  ◌++◌,
  slice_get,
  Option,
  Some,
  None,
  is_some,
  ap,
  sym,
  refl,
  arith,
}
use Rattle.rb_yaml.specs.Tree.{YamlTree}
use Rattle.rb_chain.specs.Forms.{Flaws, flaws_from, run_flaws}
use Rattle.rb_chain.specs.declared.chain_err.ChainFault.{ChainFault}

-- the first of a list
abbrev pub first : Flaws → Option ChainFault
first flaws = slice_get flaws 0

-- where the front has one, it is that of both
pub first_in_front : (xs ys : Flaws) (flaw : ChainFault) → Some flaw ≡ first xs
    → Some flaw ≡ first (xs ++ ys)
first_in_front [] ys flaw h = absurd (grind (arith, h))
first_in_front (x ∷ xs) ys flaw h = h

-- where it has none, it is that of what is behind
pub first_behind : (xs ys : Flaws) → None ≡ first xs → first ys ≡ first (xs ++ ys)
first_behind [] ys h = refl
first_behind (x ∷ xs) ys h = absurd (grind (arith, h))

-- ---- run by run

-- a run with a flaw: it is the first of all that are left
pub run_here : (run : ℕ) (value : YamlTree) (left rest : List YamlTree)
    (found whole : Option ChainFault) → left ≡ value ∷ rest → found ≡ first (run_flaws run value)
    → is_some found ≡ true → first (flaws_from run left) ≡ whole → found ≡ whole
run_here run value left rest None whole split is some same = absurd (grind (arith, some))
run_here run value left rest (Some flaw) whole split is some same =
    first_in_front (run_flaws run value) (flaws_from (run + 1) rest) flaw is
    ∙ sym (ap (λ xs. first (flaws_from run xs)) split) ∙ same

-- one without: it is among those of the others
pub run_on : (run : ℕ) (value : YamlTree) (left rest : List YamlTree)
    (found whole : Option ChainFault) → left ≡ value ∷ rest → found ≡ first (run_flaws run value)
    → is_some found ≡ false → first (flaws_from run left) ≡ whole
    → first (flaws_from (run + 1) rest) ≡ whole
run_on run value left rest None whole split is some same =
    first_behind (run_flaws run value) (flaws_from (run + 1) rest) is
    ∙ sym (ap (λ xs. first (flaws_from run xs)) split) ∙ same
run_on run value left rest (Some flaw) whole split is some same = absurd (grind (arith, some))
