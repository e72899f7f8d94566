-- The flaw that is told is the foremost of all.
use Rattle.std.proofs.Common.{◌≡◌, ◌∙◌, ◌≤◌, ◌<◌, Bool, true, false, cond, nat_le, List, [], ◌∷◌, All, Option, Some, None, ap, sym, subst, arith, refl}
use Rattle.std.proofs.lemmas.Bool.Decides.{nat_tests}
use Rattle.std.proofs.lemmas.List.Elements.{All-nil, All-cons, All-append, All-weaker}
use Rattle.rb_acl_doc.specs.Laws.{IsForemost}
use Rattle.rb_acl_doc.specs.Telling.{foremost_kind, kind_rank, sooner}
use Rattle.rb_acl_doc.specs.declared.fault.AclKind.{AclKind}

abbrev Later : AclKind → List AclKind → Type 0
Later told ks = All (λ k. kind_rank told < kind_rank k) ks

abbrev NoEarlier : AclKind → List AclKind → Type 0
NoEarlier told ks = All (λ k. kind_rank told ≤ kind_rank k) ks

abbrev which : Bool → AclKind → AclKind → Option AclKind
which first a b = cond first (Some a) (Some b)

which_some : (first : Bool) (a b : AclKind) → which first a b ≡ None → ⊥
which_some true a b h = cc
which_some false a b h = cc

some_sooner : (x : AclKind) (rest : Option AclKind) → sooner (Some x) rest ≡ None → ⊥
some_sooner x None h = cc
some_sooner x (Some y) h = which_some (nat_le (kind_rank x) (kind_rank y)) x y h

pub no_flaw : (flaws : List AclKind) → foremost_kind flaws ≡ None → flaws ≡ []
no_flaw [] h = refl
no_flaw (x ∷ xs) h = absurd (some_sooner x (foremost_kind xs) h)

same_kind : (x y : AclKind) → Some x ≡ Some y → x ≡ y
same_kind x y h = cc

-- the first flaw is told where it is of no later kind than the foremost of the others
first_told : (x y : AclKind) (xs : List AclKind) → kind_rank x ≤ kind_rank y → IsForemost xs y
    → IsForemost (x ∷ xs) x
first_told x y xs le is =
    let before : NoEarlier x is.before =
    All-weaker (λ k. kind_rank y < kind_rank k) (λ k. kind_rank x ≤ kind_rank k)
    (λ k lt. omega (arith, le, lt)) is.before is.later in
    let behind : NoEarlier x is.behind =
    All-weaker (λ k. kind_rank y ≤ kind_rank k) (λ k. kind_rank x ≤ kind_rank k)
    (λ k low. omega (arith, le, low)) is.behind is.no_earlier in
    record {
      before = [];
      behind = xs;
      there = refl;
      later = All-nil (λ k. kind_rank x < kind_rank k);
      no_earlier = subst (NoEarlier x) (sym is.there)
          (All-append (λ k. kind_rank x ≤ kind_rank k) is.before (y ∷ is.behind) before
          (All-cons (λ k. kind_rank x ≤ kind_rank k) y is.behind le behind));
    }

-- and else that one is told
other_told : (x y : AclKind) (xs : List AclKind) → kind_rank y < kind_rank x → IsForemost xs y
    → IsForemost (x ∷ xs) y
other_told x y xs lt is = record {
  before = x ∷ is.before;
  behind = is.behind;
  there = ap (λ ks. x ∷ ks) is.there;
  later = All-cons (λ k. kind_rank y < kind_rank k) x is.before lt is.later;
  no_earlier = is.no_earlier;
}

pick : (x y told : AclKind) (xs : List AclKind) (first : Bool)
    → nat_le (kind_rank x) (kind_rank y) ≡ first → sooner (Some x) (Some y) ≡ Some told
    → IsForemost xs y → IsForemost (x ∷ xs) told
pick x y told xs true le h is =
    let same : x ≡ told = same_kind x told (sym (ap (λ b. which b x y) le) ∙ h) in
    subst (IsForemost (x ∷ xs)) same (first_told x y xs (grind (arith, nat_tests, le)) is)
pick x y told xs false le h is =
    let same : y ≡ told = same_kind y told (sym (ap (λ b. which b x y) le) ∙ h) in
    subst (IsForemost (x ∷ xs)) same (other_told x y xs (grind (arith, nat_tests, le)) is)

-- the only one is told
alone_told : (x told : AclKind) (xs : List AclKind) → xs ≡ [] → x ≡ told
    → IsForemost (x ∷ xs) told
alone_told x told xs none same =
    subst (IsForemost (x ∷ xs)) same (record {
      before = [];
      behind = xs;
      there = refl;
      later = All-nil (λ k. kind_rank x < kind_rank k);
      no_earlier = subst (NoEarlier x) (sym none) (All-nil (λ k. kind_rank x ≤ kind_rank k));
    })

told_of : (x told : AclKind) (xs : List AclKind) (rest : Option AclKind)
    → foremost_kind xs ≡ rest → ((y : AclKind) → rest ≡ Some y → IsForemost xs y)
    → sooner (Some x) rest ≡ Some told → IsForemost (x ∷ xs) told
told_of x told xs None is behind h = alone_told x told xs (no_flaw xs is) (same_kind x told h)
told_of x told xs (Some y) is behind h =
    pick x y told xs (nat_le (kind_rank x) (kind_rank y)) refl h (behind y refl)

pub told_is_foremost : (flaws : List AclKind) (told : AclKind) → foremost_kind flaws ≡ Some told
    → IsForemost flaws told
told_is_foremost [] told h = absurd (cc)
told_is_foremost (x ∷ xs) told h =
    told_of x told xs (foremost_kind xs) refl (told_is_foremost xs) h
