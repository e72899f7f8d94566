-- The runs that have to be undone: each below its bound, with an undo, the greatest first, none
-- left out.
use Rattle.std.proofs.Common.{
  ◌≡◌,
  ◌∙◌,
  ◌<◌,
  ◌≤◌,
  ℕ,
  zero,
  suc,
  ◌+◌,
  List,
  [],
  ◌∷◌,
  ◌++◌,
  length,
  filter,
  reverse,
  Bool,
  true,
  false,
  cond,
  Option,
  Some,
  slice_get,
  get_or,
  unwrap_or,
  is_some,
  option_and_then,
  ap,
  sym,
  subst,
  refl,
  arith,
  ◌⊎◌,
  inl,
  inr,
}
use Rattle.std.proofs.lemmas.List.{reverse-append}
use Rattle.std.proofs.lemmas.List.Elements.{filter-append}
use Rattle.std.proofs.lemmas.Option.{slice_get_read}
use Rattle.rb_causes.specs.Numbers.{numbers_from}
use Rattle.rb_chain.specs.Nexts.{has_undo, undos_before}
use Rattle.rb_chain.specs.declared.run.ChainRun.{ChainRun}

-- ---- numbers

pub numbers_get : (a n k : ℕ) → k < n → slice_get (numbers_from a n) k ≡ Some (a + k)
numbers_get a zero k lt = absurd (omega (arith, lt))
numbers_get a (suc n) zero lt = ap Some (omega arith)
numbers_get a (suc n) (suc k) lt =
    numbers_get (a + 1) n k (omega (arith, lt)) ∙ ap Some (omega arith)

pub numbers_length : (a n : ℕ) → length (numbers_from a n) ≡ n
numbers_length a zero = refl
numbers_length a (suc n) = ap suc (numbers_length (a + 1) n)

same_first : (a b : ℕ) → a ≡ b → a ∷ [] ≡ b ∷ []
same_first a b e = ap (λ x. x ∷ []) e

pub numbers_last : (a n : ℕ) → numbers_from a (suc n) ≡ numbers_from a n ++ (a + n) ∷ []
numbers_last a zero = same_first a (a + 0) (omega arith)
numbers_last a (suc n) =
    ap (λ xs. a ∷ xs) (numbers_last (a + 1) n
    ∙ ap (λ xs. numbers_from (a + 1) n ++ xs) (same_first (a + 1 + n) (a + suc n) (omega arith)))

-- ---- one run more

one_more_by : (p : ℕ → Bool) (b : Bool) (n : ℕ) (xs : List ℕ) → p n ≡ b
    → reverse (cond b (n ∷ []) []) ++ xs ≡ cond b (n ∷ xs) xs
one_more_by p true n xs e = refl
one_more_by p false n xs e = refl

-- the undos before one run more: its own in front of the others, if it has one
pub one_more : (runs : List ChainRun) (n : ℕ)
    → undos_before runs (suc n)
    ≡ cond (has_undo runs n) (n ∷ undos_before runs n) (undos_before runs n)
one_more runs n =
    ap (λ xs. reverse (filter (has_undo runs) xs))
    (numbers_last 0 n ∙ ap (λ xs. numbers_from 0 n ++ xs) (same_first (0 + n) n (omega arith)))
    ∙ ap reverse (filter-append (has_undo runs) (numbers_from 0 n) (n ∷ []))
    ∙ reverse-append (filter (has_undo runs) (numbers_from 0 n))
    (filter (has_undo runs) (n ∷ []))
    ∙ one_more_by (has_undo runs) (has_undo runs n) n (undos_before runs n) refl

-- ---- each of them

-- it is below the bound, and has an undo
pub record IsOwed (runs : List ChainRun) (n x : ℕ) : Type 0 where
  pub below : x < n
  pub undo : has_undo runs x ≡ true

wider : (runs : List ChainRun) (n x : ℕ) → IsOwed runs n x → IsOwed runs (suc n) x
wider runs n x h = record { below = omega (arith, h.below); undo = h.undo }

owed_by : (runs : List ChainRun) (b : Bool) (n k x : ℕ) (xs : List ℕ) → has_undo runs n ≡ b
    → ((j : ℕ) → slice_get xs j ≡ Some x → IsOwed runs n x)
    → slice_get (cond b (n ∷ xs) xs) k ≡ Some x → IsOwed runs (suc n) x
owed_by runs true n zero x xs e f h =
    let same : n ≡ x = ap (λ o. unwrap_or o n) h in
    record { below = omega (arith, same); undo = ap (has_undo runs) (sym same) ∙ e }
owed_by runs true n (suc k) x xs e f h = wider runs n x (f k h)
owed_by runs false n k x xs e f h = wider runs n x (f k h)

pub undos_owed : (runs : List ChainRun) (n k x : ℕ) → slice_get (undos_before runs n) k ≡ Some x
    → IsOwed runs n x
undos_owed runs zero k x h = absurd (grind (arith, h))
undos_owed runs (suc n) k x h =
    owed_by runs (has_undo runs n) n k x (undos_before runs n) refl
    (λ j g. undos_owed runs n j x g)
    (ap (λ xs. slice_get xs k) (sym (one_more runs n)) ∙ h)

-- ---- descending

descend_by : (runs : List ChainRun) (b : Bool) (n k x y : ℕ) (xs : List ℕ)
    → ((j z : ℕ) → slice_get xs j ≡ Some z → z < n)
    → ((j : ℕ) → slice_get xs j ≡ Some x → slice_get xs (suc j) ≡ Some y → y < x)
    → slice_get (cond b (n ∷ xs) xs) k ≡ Some x
    → slice_get (cond b (n ∷ xs) xs) (suc k) ≡ Some y → y < x
descend_by runs true n zero x y xs low f h g =
    let same : n ≡ x = ap (λ o. unwrap_or o n) h in
    omega (arith, same, low 0 y g)
descend_by runs true n (suc k) x y xs low f h g = f k h g
descend_by runs false n k x y xs low f h g = f k h g

pub undos_descend : (runs : List ChainRun) (n k x y : ℕ)
    → slice_get (undos_before runs n) k ≡ Some x
    → slice_get (undos_before runs n) (suc k) ≡ Some y → y < x
undos_descend runs zero k x y h g = absurd (grind (arith, h))
undos_descend runs (suc n) k x y h g =
    descend_by runs (has_undo runs n) n k x y (undos_before runs n)
    (λ j z s. (undos_owed runs n j z s).below)
    (λ j s t. undos_descend runs n j x y s t)
    (ap (λ xs. slice_get xs k) (sym (one_more runs n)) ∙ h)
    (ap (λ xs. slice_get xs (suc k)) (sym (one_more runs n)) ∙ g)

-- ---- none left out

abbrev pub Stands : List ℕ → ℕ → Type 0
Stands xs x = (k : ℕ) × (slice_get xs k ≡ Some x)

split_more : (x n : ℕ) → (x < n) ⊎ (x ≡ n) → (suc x < suc n) ⊎ (suc x ≡ suc n)
split_more x n (inl h) = inl (omega (arith, h))
split_more x n (inr e) = inr (ap suc e)

pub split : (x n : ℕ) → x < suc n → (x < n) ⊎ (x ≡ n)
split zero zero lt = inr refl
split zero (suc n) lt = inl (omega arith)
split (suc x) zero lt = absurd (omega (arith, lt))
split (suc x) (suc n) lt = split_more x n (split x n (omega (arith, lt)))

stands_at : (runs : List ChainRun) (b : Bool) (n x : ℕ) (xs : List ℕ) → has_undo runs n ≡ b
    → has_undo runs x ≡ true → (x < n) ⊎ (x ≡ n) → (x < n → Stands xs x)
    → Stands (cond b (n ∷ xs) xs) x
stands_at runs true n x xs e u (inl lt) f = let g = f lt in (suc g.0, g.1)
stands_at runs false n x xs e u (inl lt) f = f lt
stands_at runs true n x xs e u (inr same) f = (0, ap Some (sym same))
stands_at runs false n x xs e u (inr same) f =
    absurd (grind (arith, sym e ∙ ap (has_undo runs) (sym same) ∙ u))

pub undos_there : (runs : List ChainRun) (n x : ℕ) → x < n → has_undo runs x ≡ true
    → Stands (undos_before runs n) x
undos_there runs zero x lt u = absurd (omega (arith, lt))
undos_there runs (suc n) x lt u =
    let g = stands_at runs (has_undo runs n) n x (undos_before runs n) refl u (split x n lt)
    (λ less. undos_there runs n x less u) in
    (g.0, ap (λ xs. slice_get xs g.0) (one_more runs n) ∙ g.1)

-- ---- how many there are, and what stands behind one

few_by : (b : Bool) (n : ℕ) (xs : List ℕ) → length xs ≤ n → length (cond b (n ∷ xs) xs) ≤ suc n
few_by true n xs h = omega (arith, h)
few_by false n xs h = omega (arith, h)

pub undos_few : (runs : List ChainRun) (n : ℕ) → length (undos_before runs n) ≤ n
undos_few runs zero = omega arith
undos_few runs (suc n) =
    subst (λ xs. length xs ≤ suc n) (sym (one_more runs n))
    (few_by (has_undo runs n) n (undos_before runs n) (undos_few runs n))

behind_by : (runs : List ChainRun) (b : Bool) (n k x : ℕ) (xs : List ℕ)
    → ((j : ℕ) → slice_get xs j ≡ Some x
    → slice_get xs (suc j) ≡ slice_get (undos_before runs x) 0)
    → xs ≡ undos_before runs n
    → slice_get (cond b (n ∷ xs) xs) k ≡ Some x
    → slice_get (cond b (n ∷ xs) xs) (suc k) ≡ slice_get (undos_before runs x) 0
behind_by runs true n zero x xs f is h =
    let same : n ≡ x = ap (λ o. unwrap_or o n) h in
    ap (λ ys. slice_get ys 0) is ∙ ap (λ m. slice_get (undos_before runs m) 0) same
behind_by runs true n (suc k) x xs f is h = f k h
behind_by runs false n k x xs f is h = f k h

-- behind the undo of a run stands the last one of the runs before it
pub undo_behind : (runs : List ChainRun) (n k x : ℕ)
    → slice_get (undos_before runs n) k ≡ Some x
    → slice_get (undos_before runs n) (suc k) ≡ slice_get (undos_before runs x) 0
undo_behind runs zero k x h = absurd (grind (arith, h))
undo_behind runs (suc n) k x h =
    ap (λ xs. slice_get xs (suc k)) (one_more runs n)
    ∙ behind_by runs (has_undo runs n) n k x (undos_before runs n)
    (λ j g. undo_behind runs n j x g) refl
    (ap (λ xs. slice_get xs k) (sym (one_more runs n)) ∙ h)

first_by : (b : Bool) (n : ℕ) (xs : List ℕ) → b ≡ true
    → slice_get (cond b (n ∷ xs) xs) 0 ≡ Some n
first_by true n xs e = refl
first_by false n xs e = absurd (grind (arith, e))

rest_by : (b : Bool) (n : ℕ) (xs : List ℕ) → b ≡ false
    → slice_get (cond b (n ∷ xs) xs) 0 ≡ slice_get xs 0
rest_by true n xs e = absurd (grind (arith, e))
rest_by false n xs e = refl

-- a run with an undo is the first to be undone of those up to it; one without is passed over
pub undo_here : (runs : List ChainRun) (n : ℕ) → has_undo runs n ≡ true
    → slice_get (undos_before runs (suc n)) 0 ≡ Some n
undo_here runs n e =
    ap (λ xs. slice_get xs 0) (one_more runs n)
    ∙ first_by (has_undo runs n) n (undos_before runs n) e

pub undo_on : (runs : List ChainRun) (n : ℕ) → has_undo runs n ≡ false
    → slice_get (undos_before runs (suc n)) 0 ≡ slice_get (undos_before runs n) 0
undo_on runs n e =
    ap (λ xs. slice_get xs 0) (one_more runs n)
    ∙ rest_by (has_undo runs n) n (undos_before runs n) e

-- ---- runs that are there

-- the run at this place tells whether it has an undo
pub has_undo_at : (runs : List ChainRun) (n : ℕ) (r : ChainRun) → n < length runs
    → r ≡ get_or runs n r → has_undo runs n ≡ is_some r.undo
has_undo_at runs n r lt is =
    ap (λ o. is_some (option_and_then (λ (x : ChainRun). x.undo) o))
    (slice_get_read runs (length runs) n r refl lt is)

pub undo_within : (runs : List ChainRun) (k : ℕ) → has_undo runs k ≡ true → k < length runs
undo_within [] k h = absurd (grind (arith, h))
undo_within (r ∷ runs) zero h = omega arith
undo_within (r ∷ runs) (suc k) h = omega (arith, undo_within runs k h)

-- ---- a walk down the runs

-- the run at hand has an undo: it is the first to be undone of those up to the whole
pub undo_at_hand : (runs : List ChainRun) (n m : ℕ) (r : ChainRun) (whole : Option ℕ)
    → m ≡ suc n → n < length runs → r ≡ get_or runs n r → is_some r.undo ≡ true
    → slice_get (undos_before runs m) 0 ≡ whole → Some n ≡ whole
undo_at_hand runs n m r whole e lt is some same =
    sym (undo_here runs n (has_undo_at runs n r lt is ∙ some))
    ∙ ap (λ k. slice_get (undos_before runs k) 0) (sym e) ∙ same

-- it has none: the first is among those before it
pub undo_past_hand : (runs : List ChainRun) (n m : ℕ) (r : ChainRun) (whole : Option ℕ)
    → m ≡ suc n → n < length runs → r ≡ get_or runs n r → is_some r.undo ≡ false
    → slice_get (undos_before runs m) 0 ≡ whole → slice_get (undos_before runs n) 0 ≡ whole
undo_past_hand runs n m r whole e lt is none same =
    sym (undo_on runs n (has_undo_at runs n r lt is ∙ none))
    ∙ ap (λ k. slice_get (undos_before runs k) 0) (sym e) ∙ same
