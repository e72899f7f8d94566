-- Of two faults the one that is told: neither goes before it.
use Rattle.std.proofs.Common.{◌≡◌, ◌⊎◌, inl, inr, ◌≤◌, ℕ, Bool, true, false, nat_eq, nat_lt, ◌&&◌, ◌||◌, Some, None, refl, ap, arith}
use Rattle.std.proofs.lemmas.Bool.Decides.{nat_tests}
use Rattle.std.proofs.lemmas.Bool.{ltb-false}
use Rattle.rb_causes.proofs.Lists.{some_is}
use Rattle.rb_yaml.specs.Faults.{LineFlaw, LineFault, rank, foremost, goes_before, earlier}
use Rattle.rb_yaml_laws.specs.Laws.{ForemostIsTold, EarliestIsTold}

foremost_by : (t : Bool) (flaw other : LineFlaw) → nat_lt (rank other) (rank flaw) ≡ t →
    ((foremost flaw (Some other) ≡ flaw) ⊎ (Some other ≡ Some (foremost flaw (Some other)))) × (rank (foremost flaw (Some other)) ≤ rank flaw) × (rank (foremost flaw (Some other)) ≤ rank other)
foremost_by true flaw other h = rw h (inr refl, below (rank other) (rank flaw) h, omega arith)
  where
    below : (a b : ℕ) → nat_lt a b ≡ true → a ≤ b
    below a b k = grind (arith, nat_tests)
foremost_by false flaw other h = rw h (inl refl, omega arith, ltb-false (rank other) (rank flaw) h)

pub foremost_is_told : ForemostIsTold
foremost_is_told flaw None = (inl refl, omega arith, λ g e. absurd (cc))
foremost_is_told flaw (Some other) =
    let m = foremost_by (nat_lt (rank other) (rank flaw)) flaw other refl in
    (m.0, m.1, λ g e. (let same = ap rank (some_is other g e) in omega (arith, m.2, same)))

no_self : (a b : ℕ) → (nat_lt a a || nat_eq a a && nat_lt b b) ≡ false
no_self a b = grind (arith, nat_tests)

no_two : (a b c d : ℕ) → (nat_lt a b || nat_eq a b && nat_lt c d) ≡ true → (nat_lt b a || nat_eq b a && nat_lt d c) ≡ false
no_two a b c d h = grind (arith, nat_tests)

earlier_by : (t : Bool) (f g : LineFault) → goes_before g f ≡ t → ((earlier f g ≡ f) ⊎ (earlier f g ≡ g)) × (goes_before f (earlier f g) ≡ false) × (goes_before g (earlier f g) ≡ false)
earlier_by true f g h = rw h (inr refl, no_two g.line f.line (rank g.flaw) (rank f.flaw) h, no_self g.line (rank g.flaw))
earlier_by false f g h = rw h (inl refl, no_self f.line (rank f.flaw), h)

pub earliest_is_told : EarliestIsTold
earliest_is_told f g = earlier_by (goes_before g f) f g refl
