-- The earliest of some places whose rule decides.
use Rattle.std.proofs.Common.{◌≡◌, ℕ, ◌<◌, zero, suc, ◌⊎◌, inl, inr, Bool, true, false, cond, ◌&&◌, Option, Some, None, List, [], ◌∷◌, refl, sym, ap, subst, ◌∙◌, arith}
use Rattle.std.specs.List.{All, Contains}
use Rattle.std.proofs.lemmas.List.Elements.{All-head, All-tail}
use Rattle.std.proofs.lemmas.Bool.Decides.{nat_tests}
use Rattle.std.proofs.Math.Bool.{and-false}
use Rattle.rb_acl.specs.Laws.{IsEarlier}
use Rattle.rb_acl.specs.Seeking.{is_earlier, comes_before_found, earlier_clause, earliest}
use Rattle.rb_acl.specs.declared.policy.Clause.{Clause}

-- of two numbers one is less, or they are equal
compared : (m n : ℕ) → (m < n) ⊎ (m ≡ n) ⊎ (n < m)
compared zero zero = inr (inl refl)
compared zero (suc n) = inl (omega arith)
compared (suc m) zero = inr (inr (omega arith))
compared (suc m) (suc n) =
    elim (compared m n) [
      | inl h ↦ inl (omega (arith, h))
      | inr (inl h) ↦ inr (inl (ap suc h))
      | inr (inr h) ↦ inr (inr (omega (arith, h)))
    ]

earlier_doc : (a b : Clause) → a.doc < b.doc → is_earlier a b ≡ true
earlier_doc a b h = grind (arith, nat_tests)

earlier_type : (a b : Clause) → a.doc ≡ b.doc → a.type_index < b.type_index → is_earlier a b ≡ true
earlier_type a b e h = grind (arith, nat_tests)

earlier_rule : (a b : Clause) → a.doc ≡ b.doc → a.type_index ≡ b.type_index → a.rule < b.rule
    → is_earlier a b ≡ true
earlier_rule a b e f h = grind (arith, nat_tests)

later_not : (a b : Clause) → is_earlier a b ≡ true → is_earlier b a ≡ false
later_not a b h = grind (arith, nat_tests)

clause_at : ℕ → ℕ → ℕ → Clause
clause_at doc kind rule = record { doc = doc; type_index = kind; rule = rule }

same_clause : (a b : Clause) → a.doc ≡ b.doc → a.type_index ≡ b.type_index → a.rule ≡ b.rule → a ≡ b
unfolding clause_at
same_clause a b e f g =
    ap (λ x. clause_at x a.type_index a.rule) e ∙ ap (λ x. clause_at b.doc x a.rule) f
    ∙ ap (λ x. clause_at b.doc b.type_index x) g

-- a place that is not earlier than the other is that, or later
pub not_earlier : (a b : Clause) → (IsEarlier a b → ⊥) → (a ≡ b) ⊎ (is_earlier b a ≡ true)
not_earlier a b never =
    elim (compared a.doc b.doc) [
      | inl h ↦ absurd (never (inl h))
      | inr (inr h) ↦ inr (earlier_doc b a h)
      | inr (inl e) ↦ elim (compared a.type_index b.type_index) [
        | inl h ↦ absurd (never (inr (inl (e, h))))
        | inr (inr h) ↦ inr (earlier_type b a (sym e) h)
        | inr (inl f) ↦ elim (compared a.rule b.rule) [
          | inl h ↦ absurd (never (inr (inr (e, f, h))))
          | inr (inr h) ↦ inr (earlier_rule b a (sym e) (sym f) h)
          | inr (inl g) ↦ inl (same_clause a b e f g)
        ]
      ]
    ]

-- nothing is found where none passes
pub earliest_none : (test : Clause → Bool) (cs : List Clause) → All (λ c. test c ≡ false) cs
    → earliest test None cs ≡ None
earliest_none test [] h = refl
earliest_none test (c ∷ cs) h =
    ap (λ b. earliest test (cond b (Some c) None) cs) (All-head (λ c. test c ≡ false) c cs h)
    ∙ earliest_none test cs (All-tail (λ c. test c ≡ false) c cs h)

either_way : (b : Bool) (c p : Clause) → c ≡ p → cond b (Some c) (Some p) ≡ Some p
either_way true c p e = ap Some e
either_way false c p e = refl

-- what is found stays, where others that pass are later
stays : (p c : Clause) (t : Bool) → (t ≡ true → (c ≡ p) ⊎ (is_earlier p c ≡ true))
    → cond (is_earlier c p && t) (Some c) (Some p) ≡ Some p
stays p c false h =
    ap (λ b. cond b (Some c) (Some p)) (and-false (is_earlier c p))
stays p c true h =
    elim (h refl) [
      | inl e ↦ either_way (is_earlier c p && true) c p e
      | inr l ↦ ap (λ b. cond (b && true) (Some c) (Some p)) (later_not p c l)
    ]

-- what comes before what is found comes before what is found next, or is it
comes : (p c : Clause) (found : Option Clause) (b t : Bool) → comes_before_found p found ≡ true
    → (t ≡ true → (c ≡ p) ⊎ (is_earlier p c ≡ true))
    → (cond (b && t) (Some c) found ≡ Some p) ⊎ (comes_before_found p (cond (b && t) (Some c) found) ≡ true)
comes p c found false t before h = inr before
comes p c found true false before h = inr before
comes p c found true true before h =
    elim (h refl) [ inl e ↦ inl (ap Some e) | inr l ↦ inr l ]

takes : (p c : Clause) (found : Option Clause) (b t : Bool) → b ≡ true → t ≡ true → c ≡ p
    → cond (b && t) (Some c) found ≡ Some p
takes p c found true true e f same = ap Some same
takes p c found true false e f same = let never : ⊥ = cc in absurd never
takes p c found false t e f same = let never : ⊥ = cc in absurd never

-- the place that passes, with none that passes before it, is the earliest
found_is : (test : Clause → Bool) (p : Clause) (cs : List Clause) (found : Option Clause)
    → test p ≡ true
    → All (λ c. test c ≡ true → (c ≡ p) ⊎ (is_earlier p c ≡ true)) cs
    → (found ≡ Some p) ⊎ ((comes_before_found p found ≡ true) × Contains cs p)
    → earliest test found cs ≡ Some p
found_is test p [] found pass all (inl e) = e
found_is test p [] found pass all (inr (before, (k, below, is))) =
    let never : ⊥ = omega (arith, below) in absurd never
found_is test p (c ∷ cs) found pass all (inl e) =
    let P : Clause → Type 0 = λ c. test c ≡ true → (c ≡ p) ⊎ (is_earlier p c ≡ true) in
    ap (λ o. earliest test (earlier_clause test o c) cs) e
    ∙ found_is test p cs (earlier_clause test (Some p) c) pass (All-tail P c cs all)
    (inl (stays p c (test c) (All-head P c cs all)))
found_is test p (c ∷ cs) found pass all (inr (before, (zero, below, is))) =
    let P : Clause → Type 0 = λ c. test c ≡ true → (c ≡ p) ⊎ (is_earlier p c ≡ true) in
    found_is test p cs (earlier_clause test found c) pass (All-tail P c cs all)
    (inl (takes p c found (comes_before_found c found) (test c)
    (subst (λ z. comes_before_found z found ≡ true) (sym is) before)
    (subst (λ z. test z ≡ true) (sym is) pass) is))
found_is test p (c ∷ cs) found pass all (inr (before, (suc k, below, is))) =
    let P : Clause → Type 0 = λ c. test c ≡ true → (c ≡ p) ⊎ (is_earlier p c ≡ true) in
    found_is test p cs (earlier_clause test found c) pass (All-tail P c cs all)
    (elim (comes p c found (comes_before_found c found) (test c) before (All-head P c cs all)) [
      | inl e ↦ inl e
      | inr l ↦ inr (l, (k, omega (arith, below), is))
    ])

pub earliest_is : (test : Clause → Bool) (p : Clause) (cs : List Clause) → test p ≡ true
    → All (λ c. test c ≡ true → (c ≡ p) ⊎ (is_earlier p c ≡ true)) cs → Contains cs p
    → earliest test None cs ≡ Some p
earliest_is test p cs pass all has = found_is test p cs None pass all (inr (refl, has))
