-- The list of places holds those in work, ascending.
use Rattle.std.proofs.Common.{◌≡◌, ℕ, ◌+◌, ◌<◌, ◌≤◌, Bool, true, false, ◌&&◌, inl, inr, zero, suc, cond, nat_lt, List, [], ◌∷◌, length, get_or, sym, ap, ◌∙◌, subst, arith, refl}
use Rattle.std.proofs.lemmas.Bool.{cases_Bool, and_from, lt-ltb}
use Rattle.rb_flow.specs.declared.unit_state.UnitState.{UnitState}
use Rattle.rb_flow.specs.declared.tally.Tally.{Tally}
use Rattle.rb_flow.specs.Tally.{IsTally, is_in_work, places_from}
use Rattle.rb_flow.specs.Order.{passes_at, is_lower}
use Rattle.rb_flow.proofs.Seats.{At, at_read, at_get, at_less, at_passes}

skipped : (b : Bool) (x : ℕ) (xs : List ℕ) (q : ℕ) → (j : ℕ) → At xs j q
    → (k : ℕ) × At (cond b (x ∷ xs) xs) k q
skipped true x xs q j h = (suc j, h)
skipped false x xs q j h = (j, h)

listed : (ss : List UnitState) (b i : ℕ) (s : UnitState) → At ss i s → is_in_work s ≡ true
    → (j : ℕ) × At (places_from b ss) j (b + i)
listed [] b i s h w = absurd h
listed (x ∷ xs) b zero s h w = (
  0,
  let e : b ≡ b + 0 = omega arith in
      rw (ap is_in_work h ∙ w) e,
)
listed (x ∷ xs) b (suc i) s h w =
    let r = listed xs (b + 1) i s h w in
    let e : b + 1 + i ≡ b + suc i = omega arith in
    skipped (is_in_work x) b (places_from (b + 1) xs) (b + suc i) r.0
    (subst (λ q. At (places_from (b + 1) xs) r.0 q) e r.1)

-- what a place that is listed says
abbrev IsListed : ℕ → List UnitState → ℕ → Type 0
IsListed b ss q = (i : ℕ) × (s : UnitState) × (q ≡ b + i) × At ss i s × (is_in_work s ≡ true)

listed_more : (b : ℕ) (x : UnitState) (xs : List UnitState) (q : ℕ) → IsListed (b + 1) xs q
    → IsListed b (x ∷ xs) q
listed_more b x xs q r = let e = r.2 in (suc r.0, r.1, omega (arith, e), r.3, r.4)

is_listed : (ss : List UnitState) (b j q : ℕ) → At (places_from b ss) j q → IsListed b ss q
is_listed [] b j q h = absurd h
is_listed (x ∷ xs) b j q h = elim (cases_Bool (is_in_work x)) [
  | inl yes_work ↦ here b x xs j q yes_work (is_listed xs (b + 1))
      (subst (λ v. At (cond v (b ∷ places_from (b + 1) xs) (places_from (b + 1) xs)) j q)
      yes_work h)
  | inr no_work ↦ listed_more b x xs q (is_listed xs (b + 1) j q
      (subst (λ v. At (cond v (b ∷ places_from (b + 1) xs) (places_from (b + 1) xs)) j q)
      no_work h))
]
  where
    here : (b : ℕ) (x : UnitState) (xs : List UnitState) (j q : ℕ) → is_in_work x ≡ true
        → ((k r : ℕ) → At (places_from (b + 1) xs) k r → IsListed (b + 1) xs r)
        → At (b ∷ places_from (b + 1) xs) j q → IsListed b (x ∷ xs) q
    here b x xs zero q w f h =
        (0, x, let e : b ≡ q = h in omega (arith, e), refl, w)
    here b x xs (suc j) q w f h = listed_more b x xs q (f j q h)

rises_by : (b : ℕ) (ps : List ℕ) (j k x y : ℕ)
    → ((i q : ℕ) → At ps i q → b + 1 ≤ q)
    → ((i l q r : ℕ) → At ps i q → At ps l r → i < l → q < r)
    → At (b ∷ ps) j x → At (b ∷ ps) k y → j < k → x < y
rises_by b ps zero zero x y f g h m l = absurd (omega (arith, l))
rises_by b ps zero (suc k) x y f g h m l =
    let e : b ≡ x = h in let r = f k y m in omega (arith, e, r)
rises_by b ps (suc j) zero x y f g h m l = absurd (omega (arith, l))
rises_by b ps (suc j) (suc k) x y f g h m l = g j k x y h m (omega (arith, l))

rises : (ss : List UnitState) (b j k x y : ℕ) → At (places_from b ss) j x
    → At (places_from b ss) k y → j < k → x < y
rises [] b j k x y h m l = absurd h
rises (s ∷ ss) b j k x y h m l =
    let ps = places_from (b + 1) ss in
    elim (cases_Bool (is_in_work s)) [
      | inl yes_work ↦ rises_by b ps j k x y
          (λ i q a. let r = is_listed ss (b + 1) i q a in let e = r.2 in omega (arith, e))
          (rises ss (b + 1)) (subst (λ v. At (cond v (b ∷ ps) ps) j x) yes_work h)
          (subst (λ v. At (cond v (b ∷ ps) ps) k y) yes_work m) l
      | inr no_work ↦ rises ss (b + 1) j k x y
          (subst (λ v. At (cond v (b ∷ ps) ps) j x) no_work h)
          (subst (λ v. At (cond v (b ∷ ps) ps) k y) no_work m) l
    ]

-- what is in work is listed
pub is_place : (t : Tally) → IsTally t → (i : ℕ) (s : UnitState) → At t.states.items i s
    → is_in_work s ≡ true → (j : ℕ) × At t.places.items j i
is_place t is i s h w =
    let r = listed t.states.items 0 i s h w in
    let e : 0 + i ≡ i = omega arith in (
      r.0,
      subst (λ q. At t.places.items r.0 q) e
          (subst (λ l. At l r.0 (0 + i)) (sym is.places) r.1),
    )

-- what is listed is in work
pub at_work : (t : Tally) → IsTally t → (j q : ℕ) → At t.places.items j q
    → (s : UnitState) × At t.states.items q s × (is_in_work s ≡ true)
at_work t is j q h =
    let r = is_listed t.states.items 0 j q (subst (λ l. At l j q) is.places h) in
    let e : r.0 ≡ q = let p = r.2 in omega (arith, p) in
    (r.1, subst (λ i. At t.states.items i r.1) e r.3, r.4)

pub places_rise : (t : Tally) → IsTally t → (j k x y : ℕ) → At t.places.items j x
    → At t.places.items k y → j < k → x < y
places_rise t is j k x y h m l = rises t.states.items 0 j k x y
    (subst (λ p. At p j x) is.places h) (subst (λ p. At p k y) is.places m) l

-- where the first place from here on, where it lies before the end, is of a lower tier
pub lower_at : (t : Tally) → IsTally t → (at place end tier : ℕ) (s : UnitState)
    → at < length t.places.items → place ≡ get_or t.places.items at place → place < end
    → place < length t.states.items → s ≡ get_or t.states.items place s
    → nat_lt s.unit.tier tier ≡ is_lower t at end tier
lower_at t is at place end tier s l e in_end within read =
    let first : get_or t.places.items at 0 ≡ place =
    at_get t.places.items at place 0 (at_read t.places.items at place l e) in
    let front = and_from _ _ (lt-ltb at (length t.places.items) l)
    (ap (λ q. nat_lt q end) first ∙ lt-ltb place end in_end) in
    let test = λ (v : UnitState). nat_lt v.unit.tier tier in
    sym (ap (λ b. b && passes_at test t.states.items (get_or t.places.items at 0)) front
    ∙ ap (passes_at test t.states.items) first
    ∙ at_passes test t.states.items place s (at_read t.states.items place s within read))

pub place_within : (t : Tally) → IsTally t → (at place : ℕ) → at < length t.places.items
    → place ≡ get_or t.places.items at place → place < length t.states.items
place_within t is at place l e =
    let r = at_work t is at place (at_read t.places.items at place l e) in
    at_less t.states.items place r.0 r.1
