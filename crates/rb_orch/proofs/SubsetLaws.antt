-- How many a subset has: the places that are drawn differ, and each is the place of an item.
use Rattle.std.proofs.Common.{◌≡◌, ℕ, ◌+◌, ◌/◌, ◌%◌, ◌^◌, ◌<◌, ◌≤◌, zero, suc, min, Bool, true, false, ◌||◌, cond, nat_eq, List, [], ◌∷◌, ◌++◌, length, get_or, ◌⊎◌, inl, inr, refl, sym, ◌∙◌, ap, subst, append_assoc, arith, if◌then◌else◌}
use Rattle.std.specs.List.{remove, list_any, sum_by}
use Rattle.std.specs.List.Sorted.{IsPermutation}
use Rattle.std.proofs.Math.Nat.{mod-lt}
use Rattle.std.proofs.lemmas.Bool.{eq-eqb}
use Rattle.std.proofs.lemmas.Bool.Decides.{eqb_tells}
use Rattle.std.proofs.lemmas.List.Edits.{length-remove}
use Rattle.std.proofs.lemmas.List.{get_or_default}
use Rattle.std.proofs.lemmas.List.Folds.{list_any-append}
use Rattle.std.proofs.lemmas.List.Sums.{sum_by-cons, sum_by-append}
use Rattle.std.proofs.lemmas.List.Sorted.{IsPermutation-refl, IsPermutation-remove, IsPermutation-cons, IsPermutation-trans, sum_by-IsPermutation}
use Rattle.rb_causes.specs.Numbers.{numbers_from}
use Rattle.rb_orch.specs.Drawing.{next_draw}
use Rattle.rb_orch.specs.Picking.{turn, drawn, standing_at}
use Rattle.rb_orch.specs.Laws.{SubsetHasCount, SubsetTakesAll}
use Rattle.rb_orch.proofs.Steps.{length_places}

-- 1 for a place that is taken
abbrev hit : List ℕ → ℕ → ℕ
hit taken place = if list_any (λ q. nat_eq q place) taken then 1 else 0

-- 1 for this place
abbrev this : ℕ → ℕ → ℕ
this place q = if nat_eq q place then 1 else 0

bool_cases : (b : Bool) → (b ≡ true) ⊎ (b ≡ false)
bool_cases true = inl refl
bool_cases false = inr refl

-- a subset has as many items as there are places that are taken
kept_more : {A : Type 0} (b : Bool) (x : A) (rest : List A) (n : ℕ) → length rest ≡ n
    → length (cond b (x ∷ rest) rest) ≡ cond b 1 0 + n
kept_more true x rest n e = omega (arith, e)
kept_more false x rest n e = omega (arith, e)

standing_length : {A : Type 0} (taken : List ℕ) (start : ℕ) (xs : List A)
    → length (standing_at taken start xs) ≡ sum_by (hit taken) (numbers_from start (length xs))
standing_length taken start [] = refl
standing_length taken start (x ∷ xs) =
    kept_more (list_any (λ q. nat_eq q start) taken) x (standing_at taken (start + 1) xs) _
    (standing_length taken (start + 1) xs)
    ∙ sym (sum_by-cons (hit taken) start (numbers_from (start + 1) (length xs)))

-- a place stands once among all places
other_place : (place q : ℕ) → (q ≡ place → ⊥) → this place q ≡ 0
other_place place q differ =
    elim (eqb_tells q place) [
      | inl same ↦ absurd (differ same.1)
      | inr other ↦ ap (λ b. cond b 1 0) other.0
    ]

none_below : (place start n : ℕ) → place < start → sum_by (this place) (numbers_from start n) ≡ 0
none_below place start zero below = refl
none_below place start (suc n) below =
    let first : this place start ≡ 0 = other_place place start (λ e. omega (arith, e, below)) in
    let later : sum_by (this place) (numbers_from (start + 1) n) ≡ 0 =
    none_below place (start + 1) n (omega (arith, below)) in
    sum_by-cons (this place) start (numbers_from (start + 1) n) ∙ omega (arith, first, later)

once : (place start n : ℕ) → sum_by (this place) (numbers_from start n) ≤ 1
once place start zero = omega arith
once place start (suc n) =
    let parts : sum_by (this place) (numbers_from start (suc n))
    ≡ this place start + sum_by (this place) (numbers_from (start + 1) n) =
    sum_by-cons (this place) start (numbers_from (start + 1) n) in
    elim (eqb_tells start place) [
      | inl same ↦
          let first : this place start ≡ 1 = ap (λ b. cond b 1 0) same.0 in
          let later : sum_by (this place) (numbers_from (start + 1) n) ≡ 0 =
          none_below place (start + 1) n (omega (arith, same.1)) in
          omega (arith, parts, first, later)
      | inr other ↦
          let first : this place start ≡ 0 = ap (λ b. cond b 1 0) other.0 in
          let later : sum_by (this place) (numbers_from (start + 1) n) ≤ 1 = once place (start + 1) n in
          omega (arith, parts, first, later)
    ]

at_least : (place : ℕ) (taken : List ℕ) → list_any (λ q. nat_eq q place) taken ≡ true
    → 1 ≤ sum_by (this place) taken
at_least place [] e = let never : ⊥ = cc in absurd never
at_least place (q ∷ qs) e =
    let parts : sum_by (this place) (q ∷ qs) ≡ this place q + sum_by (this place) qs =
    sum_by-cons (this place) q qs in
    elim (bool_cases (nat_eq q place)) [
      | inl taken_here ↦
          let first : this place q ≡ 1 = ap (λ b. cond b 1 0) taken_here in
          omega (arith, parts, first)
      | inr other ↦
          let later : list_any (λ r. nat_eq r place) qs ≡ true =
          sym (ap (λ b. b || list_any (λ r. nat_eq r place) qs) other) ∙ e in
          let more : 1 ≤ sum_by (this place) qs = at_least place qs later in
          omega (arith, parts, more)
    ]

-- where each place stands once, none of those left is taken
disjoint : (taken rest : List ℕ) → ((place : ℕ) → sum_by (this place) (taken ++ rest) ≤ 1)
    → sum_by (hit taken) rest ≡ 0
disjoint taken [] few = refl
disjoint taken (p ∷ ps) few =
    let parts : (q : ℕ) → sum_by (this q) (taken ++ p ∷ ps)
    ≡ sum_by (this q) taken + (this q p + sum_by (this q) ps) =
    λ q. sum_by-append (this q) taken (p ∷ ps)
    ∙ ap (λ n. sum_by (this q) taken + n) (sum_by-cons (this q) p ps) in
    let rest : sum_by (hit taken) ps ≡ 0 =
    disjoint taken ps
    (λ q. let both : sum_by (this q) (taken ++ ps)
    ≡ sum_by (this q) taken + sum_by (this q) ps = sum_by-append (this q) taken ps in
    let whole = parts q in let bound = few q in omega (arith, both, whole, bound)) in
    let own : this p p ≡ 1 = ap (λ b. cond b 1 0) (eq-eqb p p refl) in
    let whole = parts p in
    let bound = few p in
    elim (bool_cases (list_any (λ q. nat_eq q p) taken)) [
      | inl taken_here ↦ let some : 1 ≤ sum_by (this p) taken = at_least p taken taken_here in
          absurd (let never : ⊥ = omega (arith, whole, bound, own, some) in never)
      | inr other ↦ let first : hit taken p ≡ 0 = ap (λ b. cond b 1 0) other in
          sum_by-cons (hit taken) p ps ∙ omega (arith, first, rest)
    ]

or_true : (b : Bool) → (b || true) ≡ true
or_true true = refl
or_true false = refl

-- each place that is taken is taken
all_hit : (front taken : List ℕ) → sum_by (hit (front ++ taken)) taken ≡ length taken
all_hit front [] = refl
all_hit front (p ∷ ps) =
    let mine : list_any (λ q. nat_eq q p) (p ∷ ps) ≡ true =
    ap (λ b. b || list_any (λ q. nat_eq q p) ps) (eq-eqb p p refl) in
    let found : list_any (λ q. nat_eq q p) (front ++ p ∷ ps) ≡ true =
    list_any-append (λ q. nat_eq q p) front (p ∷ ps)
    ∙ ap (λ b. list_any (λ q. nat_eq q p) front || b) mine
    ∙ or_true (list_any (λ q. nat_eq q p) front) in
    let first : hit (front ++ p ∷ ps) p ≡ 1 = ap (λ b. cond b 1 0) found in
    let rest : sum_by (hit (front ++ p ∷ ps)) ps ≡ length ps =
    subst (λ l. sum_by (hit l) ps ≡ length ps) (append_assoc front (p ∷ []) ps)
    (all_hit (front ++ p ∷ []) ps) in
    sum_by-cons (hit (front ++ p ∷ ps)) p ps ∙ omega (arith, first, rest)

drawn_length : (k : ℕ) (left : List ℕ) (x : ℕ) → length (drawn k left x) ≡ k
drawn_length zero left x = refl
drawn_length (suc k) left x = ap suc
    (drawn_length k (remove left (turn (next_draw x) left)) (next_draw x))

-- what is drawn and what then is left are the places left before
drawn_permutes : (k : ℕ) (left : List ℕ) (x : ℕ) → k ≤ length left → (rest : List ℕ)
    × IsPermutation left (drawn k left x ++ rest)
drawn_permutes zero left x enough = (left, IsPermutation-refl left)
drawn_permutes (suc k) left x enough =
    let at : ℕ = turn (next_draw x) left in
    let y : ℕ = get_or left at 0 in
    let within : at < length left = mod-lt (next_draw x / 65536) (omega (arith, enough)) in
    let less : length (remove left at) + 1 ≡ length left = length-remove left at within in
    let more = drawn_permutes k (remove left at) (next_draw x) (omega (arith, less, enough)) in
    let first : IsPermutation left (y ∷ remove left at) =
    IsPermutation-remove left at y within (get_or_default left at 0 y within) in
    (more.0, IsPermutation-trans _ _ _ first (IsPermutation-cons y _ _ more.1))

pub has_count : SubsetHasCount
has_count items count draw =
    let n : ℕ = length items in
    let k : ℕ = min count n in
    let x : ℕ = draw % 2 ^ 31 in
    let taken : List ℕ = drawn k (numbers_from 0 n) x in
    let all : length (numbers_from 0 n) ≡ n = length_places 0 n in
    let left = drawn_permutes k (numbers_from 0 n) x (omega (arith, all)) in
    let few : (p : ℕ) → sum_by (this p) (taken ++ left.0) ≤ 1 = λ p. let same =
    sum_by-IsPermutation (this p) _ _ left.1 in let one = once p 0 n in
    omega (arith, same, one) in
    let same : sum_by (hit taken) (taken ++ left.0) ≡ sum_by (hit taken) (numbers_from 0 n) =
    sum_by-IsPermutation (hit taken) _ _ left.1 in
    let both : sum_by (hit taken) (taken ++ left.0)
    ≡ sum_by (hit taken) taken + sum_by (hit taken) left.0 =
    sum_by-append (hit taken) taken left.0 in
    let hits : sum_by (hit taken) taken ≡ length taken = all_hit [] taken in
    let none : sum_by (hit taken) left.0 ≡ 0 = disjoint taken left.0 few in
    let drawn_all : length taken ≡ k = drawn_length k (numbers_from 0 n) x in
    standing_length taken 0 items ∙ omega (arith, same, both, hits, none, drawn_all)

-- a subset is no longer than the list, and the list itself where it is as long
kept_short : {A : Type 0} (b : Bool) (x : A) (rest : List A) (n : ℕ) → length rest ≤ n
    → length (cond b (x ∷ rest) rest) ≤ suc n
kept_short true x rest n h = omega (arith, h)
kept_short false x rest n h = omega (arith, h)

standing_short : {A : Type 0} (taken : List ℕ) (start : ℕ) (xs : List A)
    → length (standing_at taken start xs) ≤ length xs
standing_short taken start [] = omega arith
standing_short taken start (x ∷ xs) =
    kept_short (list_any (λ q. nat_eq q start) taken) x (standing_at taken (start + 1) xs)
    (length xs) (standing_short taken (start + 1) xs)

kept_whole : {A : Type 0} (b : Bool) (x : A) (rest xs : List A) → length rest ≤ length xs
    → (length rest ≡ length xs → rest ≡ xs) → length (cond b (x ∷ rest) rest) ≡ suc (length xs)
    → cond b (x ∷ rest) rest ≡ x ∷ xs
kept_whole true x rest xs short whole e = ap (λ l. x ∷ l) (whole (omega (arith, e)))
kept_whole false x rest xs short whole e = absurd (let never : ⊥ = omega (arith, short, e) in never)

standing_whole : {A : Type 0} (taken : List ℕ) (start : ℕ) (xs : List A)
    → length (standing_at taken start xs) ≡ length xs → standing_at taken start xs ≡ xs
standing_whole taken start [] e = refl
standing_whole taken start (x ∷ xs) e =
    kept_whole (list_any (λ q. nat_eq q start) taken) x (standing_at taken (start + 1) xs) xs
    (standing_short taken (start + 1) xs) (standing_whole taken (start + 1) xs) e

pub takes_all : SubsetTakesAll
takes_all items count draw over =
    let n : ℕ = length items in
    let taken : List ℕ = drawn (min count n) (numbers_from 0 n) (draw % 2 ^ 31) in
    let size : length (standing_at taken 0 items) ≡ min count n = has_count items count draw in
    standing_whole taken 0 items (omega (arith, size, over))
