-- Where units are in work, with one unit set.
use Rattle.std.proofs.Common.{◌≡◌, ℕ, ◌+◌, ◌<◌, ◌≤◌, Bool, true, false, cond, nat_lt, List, [], ◌∷◌, length, get_or, set, count_by, length-set, get_or-set_same, arith, refl, ap, sym, ◌∙◌, zero, suc, zero-add, inl, inr, if◌then◌else◌}
use Rattle.std.proofs.Math.Bool.{beq}
use Rattle.std.specs.List.{prefix_len, insert, remove}
use Rattle.std.specs.List.Sorted.{IsNonDecreasing, IsPartitionPoint}
use Rattle.std.proofs.lemmas.List.Sorted.{IsNonDecreasingBy-from_default}
use Rattle.std.proofs.lemmas.List.Sums.{prefix_len_is, count_by-le-length, sum_by-set}
use Rattle.std.proofs.lemmas.Bool.{lt-ltb, le-ltb, cases_lt}
use Rattle.rb_marks.proofs.Counts.{count_cons}
use Rattle.rb_flow.specs.Tally.{is_in_work, places_from}
use Rattle.rb_flow.proofs.TallyCounts.{before_now}
use Rattle.rb_flow.specs.declared.unit_state.UnitState.{UnitState}

-- each place is at least the first
cons_from : (b n : ℕ) (work : Bool) (rest : List ℕ)
    → ((k : ℕ) → k < length rest → b + 1 ≤ get_or rest k 0) → n < length (cond work (b ∷ rest) rest)
    → b ≤ get_or (cond work (b ∷ rest) rest) n 0
cons_from b zero true rest f h = omega arith
cons_from b (suc n) true rest f h = omega (arith, f n (omega (arith, h)))
cons_from b n false rest f h = omega (arith, f n h)

pub places_at_least : (b : ℕ) (xs : List UnitState) (k : ℕ) → k < length (places_from b xs)
    → b ≤ get_or (places_from b xs) k 0
places_at_least b [] k h = absurd (omega (arith, h))
places_at_least b (x ∷ xs) k h =
    cons_from b k (is_in_work x) (places_from (b + 1) xs) (places_at_least (b + 1) xs) h

-- no place is below one that is at most the first
cons_rise : (b i j : ℕ) (work : Bool) (rest : List ℕ)
    → ((k : ℕ) → k < length rest → b + 1 ≤ get_or rest k 0)
    → ((i j : ℕ) → i < j → j < length rest → get_or rest i 0 < get_or rest j 0)
    → i < j → j < length (cond work (b ∷ rest) rest)
    → get_or (cond work (b ∷ rest) rest) i 0 < get_or (cond work (b ∷ rest) rest) j 0
cons_rise b i zero true rest f g h k = absurd (omega (arith, h))
cons_rise b zero (suc j) true rest f g h k = omega (arith, f j (omega (arith, k)))
cons_rise b (suc i) (suc j) true rest f g h k = g i j (omega (arith, h)) (omega (arith, k))
cons_rise b i j false rest f g h k = g i j h k

-- the places rise
pub places_rise : (b : ℕ) (xs : List UnitState) (i j : ℕ) → i < j
    → j < length (places_from b xs)
    → get_or (places_from b xs) i 0 < get_or (places_from b xs) j 0
places_rise b [] i j h k = absurd (omega (arith, k))
places_rise b (x ∷ xs) i j h k =
    cons_rise b i j (is_in_work x) (places_from (b + 1) xs) (places_at_least (b + 1) xs)
    (places_rise (b + 1) xs) h k

-- where a place belongs
abbrev pub rank : ℕ → List ℕ → ℕ
rank place places = prefix_len (λ p. nat_lt p place) places

no_rank : (b : ℕ) (rest : List ℕ) → ((k : ℕ) → k < length rest → b ≤ get_or rest k 0)
    → rank b rest ≡ 0
no_rank b rest f = prefix_len_is (λ p. nat_lt p b) rest 0 0 (omega arith)
    (λ k h. absurd (omega (arith, h))) (λ h. le-ltb (get_or rest 0 0) b (f 0 h))

-- where it is in work as before
keep_cons : (b : ℕ) (x y : UnitState) (xs : List UnitState) → is_in_work y ≡ is_in_work x
    → places_from b (y ∷ xs) ≡ places_from b (x ∷ xs)
keep_cons b x y xs e =
    ap (λ w. cond w (b ∷ places_from (b + 1) xs) (places_from (b + 1) xs)) e

pub places_kept : (b : ℕ) (xs : List UnitState) (i : ℕ) (y d : UnitState) → i < length xs
    → is_in_work y ≡ is_in_work (get_or xs i d) → places_from b (set xs i y) ≡ places_from b xs
places_kept b [] i y d h e = refl
places_kept b (x ∷ xs) zero y d h e = keep_cons b x y xs e
places_kept b (x ∷ xs) (suc i) y d h e =
    ap (λ rest. cond (is_in_work x) (b ∷ rest) rest)
    (places_kept (b + 1) xs i y d (omega (arith, h)) e)

one_more : (n : ℕ) → suc n ≡ 1 + n
one_more n = omega arith

-- where it is in work now
enter_cons : (b place : ℕ) (work : Bool) (rest : List ℕ) → b < place
    → cond work (b ∷ insert rest (rank place rest) place) (insert rest (rank place rest) place)
    ≡ insert (cond work (b ∷ rest) rest) (rank place (cond work (b ∷ rest) rest)) place
enter_cons b place false rest h = refl
enter_cons b place true rest h =
    ap (λ n. insert (b ∷ rest) n place) (one_more (rank place rest))
    ∙ ap (λ t. insert (b ∷ rest) (cond t (1 + rank place rest) 0) place) (sym (lt-ltb b place h))

enter_here : (b place : ℕ) (was is : Bool) (rest : List ℕ)
    → ((k : ℕ) → k < length rest → b + 1 ≤ get_or rest k 0) → place ≡ b
    → was ≡ false → is ≡ true
    → cond is (b ∷ rest) rest
    ≡ insert (cond was (b ∷ rest) rest) (rank place (cond was (b ∷ rest) rest)) place
enter_here b place true is rest f e was now = absurd (let k : true ≡ false = was in cc)
enter_here b place false false rest f e was now = absurd (let k : false ≡ true = now in cc)
enter_here b place false true rest f e was now =
    ap (λ p. p ∷ rest) (sym e)
    ∙ ap (λ n. insert rest n place) (sym (no_rank place rest (λ k h. omega (arith, f k h, e))))

pub places_entered : (b : ℕ) (xs : List UnitState) (i : ℕ) (y d : UnitState) (place : ℕ)
    → place ≡ b + i → i < length xs → is_in_work (get_or xs i d) ≡ false → is_in_work y ≡ true
    → places_from b (set xs i y) ≡ insert (places_from b xs) (rank place (places_from b xs)) place
places_entered b [] i y d place e h was now = absurd (omega (arith, h))
places_entered b (x ∷ xs) zero y d place e h was now =
    enter_here b place (is_in_work x) (is_in_work y) (places_from (b + 1) xs)
    (places_at_least (b + 1) xs) (omega (arith, e)) was now
places_entered b (x ∷ xs) (suc i) y d place e h was now =
    ap (λ rest. cond (is_in_work x) (b ∷ rest) rest)
    (places_entered (b + 1) xs i y d place (omega (arith, e)) (omega (arith, h)) was now)
    ∙ enter_cons b place (is_in_work x) (places_from (b + 1) xs) (omega (arith, e))

-- where it is not in work any more
leave_cons : (b place : ℕ) (work : Bool) (rest : List ℕ) → b < place
    → cond work (b ∷ remove rest (rank place rest)) (remove rest (rank place rest))
    ≡ remove (cond work (b ∷ rest) rest) (rank place (cond work (b ∷ rest) rest))
leave_cons b place false rest h = refl
leave_cons b place true rest h =
    ap (λ n. remove (b ∷ rest) n) (one_more (rank place rest))
    ∙ ap (λ t. remove (b ∷ rest) (cond t (1 + rank place rest) 0)) (sym (lt-ltb b place h))

leave_here : (b place : ℕ) (was is : Bool) (rest : List ℕ) → place ≡ b
    → was ≡ true → is ≡ false
    → cond is (b ∷ rest) rest
    ≡ remove (cond was (b ∷ rest) rest) (rank place (cond was (b ∷ rest) rest))
leave_here b place false is rest e was now = absurd (let k : false ≡ true = was in cc)
leave_here b place true true rest e was now = absurd (let k : true ≡ false = now in cc)
leave_here b place true false rest e was now =
    ap (λ t. remove (b ∷ rest) (cond t (1 + rank place rest) 0))
    (sym (le-ltb b place (omega (arith, e))))

pub places_left : (b : ℕ) (xs : List UnitState) (i : ℕ) (y d : UnitState) (place : ℕ)
    → place ≡ b + i → i < length xs → is_in_work (get_or xs i d) ≡ true → is_in_work y ≡ false
    → places_from b (set xs i y) ≡ remove (places_from b xs) (rank place (places_from b xs))
places_left b [] i y d place e h was now = absurd (omega (arith, h))
places_left b (x ∷ xs) zero y d place e h was now =
    leave_here b place (is_in_work x) (is_in_work y) (places_from (b + 1) xs)
    (omega (arith, e)) was now
places_left b (x ∷ xs) (suc i) y d place e h was now =
    ap (λ rest. cond (is_in_work x) (b ∷ rest) rest)
    (places_left (b + 1) xs i y d place (omega (arith, e)) (omega (arith, h)) was now)
    ∙ leave_cons b place (is_in_work x) (places_from (b + 1) xs) (omega (arith, e))

within_here : (b place : ℕ) (is : Bool) (rest : List ℕ) → place ≡ b → is ≡ true
    → rank place (cond is (b ∷ rest) rest) < length (cond is (b ∷ rest) rest)
within_here b place false rest e is = absurd (let k : false ≡ true = is in cc)
within_here b place true rest e is =
    omega (
      arith,
      ap {B = ℕ} (λ t. cond t (1 + rank place rest) 0) (le-ltb b place (omega (arith, e))),
    )

within_cons : (b place : ℕ) (is : Bool) (rest : List ℕ) → b < place
    → rank place rest < length rest
    → rank place (cond is (b ∷ rest) rest) < length (cond is (b ∷ rest) rest)
within_cons b place false rest less h = h
within_cons b place true rest less h =
    omega (
      arith,
      h,
      ap {B = ℕ} (λ t. cond t (1 + rank place rest) 0) (lt-ltb b place less),
    )

-- there are as many places as units in work
length_cons : (b : ℕ) (work : Bool) (rest : List ℕ)
    → length (cond work (b ∷ rest) rest) ≡ cond work 1 0 + length rest
length_cons b true rest = omega arith
length_cons b false rest = sym (zero-add (length rest))

pub places_length : (b : ℕ) (xs : List UnitState) → length (places_from b xs)
    ≡ count_by is_in_work xs
places_length b [] = refl
places_length b (x ∷ xs) =
    length_cons b (is_in_work x) (places_from (b + 1) xs)
    ∙ ap (λ n. cond (is_in_work x) 1 0 + n) (places_length (b + 1) xs)
    ∙ sym (count_cons is_in_work x xs)

-- there is room for one more
pub room_to_enter : (xs : List UnitState) (i : ℕ) (y d : UnitState) → i < length xs
    → is_in_work (get_or xs i d) ≡ false → is_in_work y ≡ true
    → length (places_from 0 xs) < length xs
room_to_enter xs i y d h was now =
    omega (
      arith,
      places_length 0 xs,
      sum_by-set (λ x. cond (is_in_work x) 1 0) xs i y d h,
      ap {B = ℕ} (λ t. cond t 1 0) was,
      ap {B = ℕ} (λ t. cond t 1 0) now,
      count_by-le-length is_in_work (set xs i y),
      length-set xs i y,
    )

not_fall : (xs : List UnitState) (i j : ℕ) → i ≤ j → j < length (places_from 0 xs)
    → get_or (places_from 0 xs) i 0 ≤ get_or (places_from 0 xs) j 0
not_fall xs i j h k = elim (cases_lt i j) [
  | inl less ↦ omega (arith, places_rise 0 xs i j less k)
  | inr same ↦ omega (
    arith,
    ap (λ n. get_or (places_from 0 xs) n 0) (let e : i ≡ j = omega (arith, h, same) in e),
  )
]

-- they do not fall, as a search asks
pub places_not_fall : (xs : List UnitState) (places : List ℕ) → places ≡ places_from 0 xs
    → IsNonDecreasing places
places_not_fall xs places e =
    rw e (IsNonDecreasingBy-from_default (λ p. p) (places_from 0 xs) 0 (not_fall xs))

-- the place of a unit in work is there
pub rank_within : (b : ℕ) (xs : List UnitState) (i : ℕ) (d : UnitState) (place : ℕ)
    → place ≡ b + i → i < length xs → is_in_work (get_or xs i d) ≡ true
    → rank place (places_from b xs) < length (places_from b xs)
rank_within b [] i d place e h is = absurd (omega (arith, h))
rank_within b (x ∷ xs) zero d place e h is =
    within_here b place (is_in_work x) (places_from (b + 1) xs) (omega (arith, e)) is
rank_within b (x ∷ xs) (suc i) d place e h is =
    within_cons b place (is_in_work x) (places_from (b + 1) xs) (omega (arith, e))
    (rank_within (b + 1) xs i d place (omega (arith, e)) (omega (arith, h)) is)

was_old : (xs : List UnitState) (i : ℕ) (old : UnitState) (is : Bool) → i < length xs
    → is_in_work old ≡ is → is_in_work (get_or (set xs i old) i old) ≡ is
was_old xs i old is h e = ap is_in_work (get_or-set_same xs i old old h) ∙ e

-- the places now, by those with the old unit at its place
pub kept_now : (xs : List UnitState) (i : ℕ) (old : UnitState) → i < length xs
    → is_in_work (get_or xs i old) ≡ is_in_work old
    → places_from 0 (set xs i old) ≡ places_from 0 xs
kept_now xs i old h e = places_kept 0 xs i old old h (sym e)

pub entered_now : (xs : List UnitState) (i : ℕ) (old : UnitState) (places new : List ℕ) (at : ℕ)
    → i < length xs → is_in_work old ≡ false → is_in_work (get_or xs i old) ≡ true
    → places ≡ places_from 0 (set xs i old) → at ≡ rank i places → new ≡ insert places at i
    → new ≡ places_from 0 xs
entered_now xs i old places new at h was is e r n =
    n ∙ ap (λ k. insert places k i) r ∙ ap (λ ps. insert ps (rank i ps) i) e
    ∙ sym (places_entered 0 (set xs i old) i (get_or xs i old) old i (sym (zero-add i))
    (omega (arith, h, length-set xs i old)) (was_old xs i old false h was) is)
    ∙ ap (places_from 0) (before_now xs i old)

pub left_now : (xs : List UnitState) (i : ℕ) (old : UnitState) (places new : List ℕ) (at : ℕ)
    → i < length xs → is_in_work old ≡ true → is_in_work (get_or xs i old) ≡ false
    → places ≡ places_from 0 (set xs i old) → at ≡ rank i places → new ≡ remove places at
    → new ≡ places_from 0 xs
left_now xs i old places new at h was is e r n =
    n ∙ ap (remove places) r ∙ ap (λ ps. remove ps (rank i ps)) e
    ∙ sym (places_left 0 (set xs i old) i (get_or xs i old) old i (sym (zero-add i))
    (omega (arith, h, length-set xs i old)) (was_old xs i old true h was) is)
    ∙ ap (places_from 0) (before_now xs i old)

pub room_now : (xs : List UnitState) (i : ℕ) (old : UnitState) → i < length xs
    → is_in_work old ≡ false → is_in_work (get_or xs i old) ≡ true
    → length (places_from 0 (set xs i old)) < length xs
room_now xs i old h was is =
    let short = room_to_enter (set xs i old) i (get_or xs i old) old
    (omega (arith, h, length-set xs i old)) (was_old xs i old false h was) is in
    omega (arith, short, length-set xs i old)

pub within_now : (xs : List UnitState) (i : ℕ) (old : UnitState) → i < length xs
    → is_in_work old ≡ true
    → rank i (places_from 0 (set xs i old)) < length (places_from 0 (set xs i old))
within_now xs i old h was =
    rank_within 0 (set xs i old) i old i (sym (zero-add i)) (omega (arith, h, length-set xs i old))
    (was_old xs i old true h was)

-- where a search parts the places is the rank
pub rank_parts : (xs : List ℕ) (at place : ℕ) → at ≤ length xs
    → IsPartitionPoint (λ p. nat_lt p place ≡ true) (λ p. nat_lt p place ≡ false) xs at
    → at ≡ rank place xs
rank_parts xs at place h parts =
    sym (prefix_len_is (λ p. nat_lt p place) xs at 0 h
    (λ k less. parts.0 k 0 (omega arith) less)
    (λ within. parts.1 at 0 (omega arith) within))

-- an insert that succeeds
pub inserted : (new old : List ℕ) (ok : Bool) (at place : ℕ)
    → new ≡ (if ok then insert old at place else old) → ok ≡ true → new ≡ insert old at place
inserted new old ok at place e is =
    e ∙ ap {B = List ℕ} (λ b. if b then insert old at place else old) is

-- two tests that agree
pub same_tests : (a b : Bool) → beq a b ≡ true → a ≡ b
same_tests true true e = refl
same_tests false false e = refl
same_tests true false e = absurd (let k : false ≡ true = e in cc)
same_tests false true e = absurd (let k : false ≡ true = e in cc)
