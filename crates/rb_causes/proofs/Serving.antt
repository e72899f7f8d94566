-- Callers in memory: one leaves, the next is served, and what each took.
use Rattle.std.proofs.Common.{◌≡◌, ◌∙◌, ◌≤◌, ◌<◌, ◌+◌, ℕ, zero, suc, Bool, true, false, nat_lt, List, [], ◌∷◌, drop, set, length, map, slice_get, Some, None, refl, ap, sym, arith, get_or}
use Rattle.std.proofs.Common.{ltb-false}
use Rattle.std.proofs.lemmas.List.{take_more_set, drop-set-lt, length-map}
use Rattle.std.proofs.lemmas.Option.{slice_get_past, slice_get-get_or}
use Rattle.rb_causes.specs.Callers.{Callers, taken_by_each, after_leaving, after_serving}
use Rattle.rb_causes.specs.MemCallers.{callers_in}

-- counted in successors, for induction
abbrev counted_in : List (List ℕ) → ℕ → Bool → ℕ → List ℕ → Bool → Callers
counted_in all past false read taken failed = callers_in all past false read taken failed
counted_in all past true read taken failed = record (callers_in all past true read taken failed) {
  waiting = drop (suc past) all;
}

next_is : (past : ℕ) → past + 1 ≡ suc past
next_is past = omega arith

counted : (all : List (List ℕ)) (past : ℕ) (served : Bool) (read : ℕ) (taken : List ℕ) (failed :
    Bool)
    → callers_in all past served read taken failed ≡ counted_in all past served read taken failed
counted all past false read taken failed = refl
counted all past true read taken failed =
    ap (λ n. record (callers_in all past true read taken failed) { waiting = drop n all }) (next_is
    past)

pub left_is : (all : List (List ℕ)) (past read : ℕ) (took : List ℕ) (failed : Bool) → past < length
    all
    → callers_in (set all past took) (past + 1) false read [] failed ≡ after_leaving (callers_in
    all past true read took failed)
left_is all past read took failed within =
    let caller : slice_get all past ≡ Some (get_or all past []) = slice_get-get_or all past []
    within in
    rw (
      take_more_set all past took within,
      drop-set-lt (past + 1) all past took (omega arith),
      caller,
    ) refl

first_of_drop : (all : List (List ℕ)) (past : ℕ) → slice_get (drop past all) 0 ≡ slice_get all past
first_of_drop [] zero = refl
first_of_drop [] (suc past) = refl
first_of_drop (x ∷ xs) zero = refl
first_of_drop (x ∷ xs) (suc past) = first_of_drop xs past

drop_suc : (all : List (List ℕ)) (past : ℕ) → drop 1 (drop past all) ≡ drop (suc past) all
drop_suc [] zero = refl
drop_suc [] (suc past) = refl
drop_suc (x ∷ xs) zero = refl
drop_suc (x ∷ xs) (suc past) = drop_suc xs past

drop_one : (all : List (List ℕ)) (past : ℕ) → drop 1 (drop past all) ≡ drop (past + 1) all
drop_one all past = drop_suc all past ∙ ap (λ n. drop n all) (sym (next_is past))

nothing_left : (all : List (List ℕ)) (past : ℕ) → length all ≤ past → drop (suc past) all ≡ drop
    past all
nothing_left [] zero le = refl
nothing_left [] (suc past) le = refl
nothing_left (x ∷ xs) zero le = let never : ⊥ = omega (arith, le) in absurd never
nothing_left (x ∷ xs) (suc past) le = nothing_left xs past (omega (arith, le))

serves_if : (all : List (List ℕ)) (past : ℕ) (served some : Bool) (read : ℕ) (taken : List ℕ)
    (failed : Bool)
    → nat_lt past (length all) ≡ some → (served ≡ true → past < length all) → (served ≡ false →
    taken ≡ [])
    → (callers_in all past served read taken failed).now ≡ None
    → callers_in all past some 0 taken false ≡ after_serving (callers_in all past served read taken
    failed)
serves_if all past true some read taken failed e within empty none =
    let caller : slice_get all past ≡ Some (get_or all past []) = slice_get-get_or all past []
    (within refl) in
    let never : ⊥ = cc in absurd never
serves_if all past false true read taken failed e within empty none =
    rw (empty refl, first_of_drop all past, drop_one all past) refl
serves_if all past false false read taken failed e within empty none =
    rw (
      first_of_drop all past,
      slice_get_past all past (ltb-false past (length all) e),
      drop_suc
          all past,
      nothing_left all past (ltb-false past (length all) e),
    ) refl

pub serves : (all : List (List ℕ)) (past : ℕ) (served : Bool) (read : ℕ) (taken : List ℕ) (failed :
    Bool)
    → (served ≡ true → past < length all) → (served ≡ false → taken ≡ [])
    → (callers_in all past served read taken failed).now ≡ None
    → callers_in all past (nat_lt past (length all)) 0 taken false ≡ after_serving (callers_in all
    past served read taken failed)
serves all past served read taken failed = serves_if all past served (nat_lt past (length all))
    read taken failed refl

-- ---- what each took

abbrev no_bytes : List ℕ → List ℕ
no_bytes input = []

blank_at : (xs : List (List ℕ)) (n : ℕ) → n < length xs → slice_get (map no_bytes xs) n ≡ Some []
blank_at [] n lt = let never : ⊥ = omega (arith, lt) in absurd never
blank_at (x ∷ xs) zero lt = refl
blank_at (x ∷ xs) (suc n) lt = blank_at xs n (omega (arith, lt))

waiting_counted : (all : List (List ℕ)) (past n : ℕ) (served : Bool) (read : ℕ) (taken : List ℕ)
    (failed : Bool)
    → past ≤ n → (served ≡ true → past < n) → n < length all → slice_get (taken_by_each (counted_in
    all past served read taken failed)) n ≡ Some []
waiting_counted [] past n served read taken failed le served_le lt = let never : ⊥ = omega (
  arith,
  lt,
) in absurd never
waiting_counted (x ∷ xs) zero n false read taken failed le served_le lt = blank_at (x ∷ xs) n lt
waiting_counted (x ∷ xs) zero zero true read taken failed le served_le lt = let never : ⊥ = omega
    (arith, served_le refl) in absurd never
waiting_counted (x ∷ xs) zero (suc n) true read taken failed le served_le lt = blank_at xs n (omega
    (arith, lt))
waiting_counted (x ∷ xs) (suc past) zero served read taken failed le served_le lt = let never : ⊥ =
    omega (arith, le) in absurd never
waiting_counted (x ∷ xs) (suc past) (suc n) false read taken failed le served_le lt =
    waiting_counted xs past n false read taken failed (omega (arith, le)) (λ e. let never : ⊥ = cc
    in absurd never) (omega (arith, lt))
waiting_counted (x ∷ xs) (suc past) (suc n) true read taken failed le served_le lt =
    waiting_counted xs past n true read taken failed (omega (arith, le)) (λ e. omega (
      arith,
      served_le refl,
    )) (omega (arith, lt))

nobody_counted : (all : List (List ℕ)) (past n : ℕ) (served : Bool) (read : ℕ) (taken : List ℕ)
    (failed : Bool)
    → past ≤ length all → (served ≡ true → past < length all) → length all ≤ n → slice_get
    (taken_by_each (counted_in all past served read taken failed)) n ≡ None
nobody_counted [] zero n false read taken failed le within behind = refl
nobody_counted [] zero n true read taken failed le within behind = let never : ⊥ = omega (
  arith,
  within refl,
) in absurd never
nobody_counted [] (suc past) n served read taken failed le within behind = let never : ⊥ = omega
    (arith, le) in absurd never
nobody_counted (x ∷ xs) past zero served read taken failed le within behind = let never : ⊥ = omega
    (arith, behind) in absurd never
nobody_counted (x ∷ xs) zero (suc n) false read taken failed le within behind = slice_get_past (map
    no_bytes xs) n (rw (length-map xs no_bytes) (omega (arith, behind)))
nobody_counted (x ∷ xs) zero (suc n) true read taken failed le within behind = slice_get_past (map
    no_bytes xs) n (rw (length-map xs no_bytes) (omega (arith, behind)))
nobody_counted (x ∷ xs) (suc past) (suc n) false read taken failed le within behind =
    nobody_counted xs past n false read taken failed (omega (arith, le)) (λ e. let never : ⊥ = cc
    in absurd never) (omega (arith, behind))
nobody_counted (x ∷ xs) (suc past) (suc n) true read taken failed le within behind =
    nobody_counted xs past n true read taken failed (omega (arith, le)) (λ e. omega (
      arith,
      within
          refl,
    )) (omega (arith, behind))

pub waiting_took : (all : List (List ℕ)) (past n : ℕ) (served : Bool) (read : ℕ) (taken : List ℕ)
    (failed : Bool)
    → past ≤ n → (served ≡ true → past < n) → n < length all → slice_get (taken_by_each (callers_in
    all past served read taken failed)) n ≡ Some []
waiting_took all past n served read taken failed le served_le lt =
    ap (λ callers. slice_get (taken_by_each callers) n) (counted all past served read taken failed)
    ∙ waiting_counted all past n served read taken failed le served_le lt

pub nobody_took : (all : List (List ℕ)) (past n : ℕ) (served : Bool) (read : ℕ) (taken : List ℕ)
    (failed : Bool)
    → past ≤ length all → (served ≡ true → past < length all) → length all ≤ n → slice_get
    (taken_by_each (callers_in all past served read taken failed)) n ≡ None
nobody_took all past n served read taken failed le within behind =
    ap (λ callers. slice_get (taken_by_each callers) n) (counted all past served read taken failed)
    ∙ nobody_counted all past n served read taken failed le within behind

pub serves_many : (len : ℕ) (all : List (List ℕ)) (past : ℕ) (served : Bool) (read : ℕ) (taken :
    List ℕ) (failed : Bool)
    → len ≡ length all → (served ≡ true → past < length all) → (served ≡ false → taken ≡ [])
    → (callers_in all past served read taken failed).now ≡ None
    → callers_in all past (nat_lt past len) 0 taken false ≡ after_serving (callers_in all past
    served read taken failed)
serves_many len all past served read taken failed same within empty none =
    ap (λ n. callers_in all past (nat_lt past n) 0 taken false) same ∙ serves all past served read
    taken failed within empty none
