-- The open leaf of a number of an execution.
use Rattle.std.proofs.Common.{◌≡◌, ◌∙◌, ℕ, List, [], ◌∷◌, Bool, true, false, ◌&&◌, nat_eq, ◌<◌, length, drop, get_or, find, Contains, Option, Some, None, ap, sym, refl, arith}
use Rattle.std.proofs.lemmas.Bool.{eqb-true}
use Rattle.std.proofs.lemmas.List.{drop_more}
use Rattle.std.proofs.lemmas.Nat.{div-add-mod'}
use Rattle.std.proofs.lemmas.Option.{get_or_from_slice_get, slice_get_within}
use Rattle.rb_causes.proofs.Lists.{find_gives}
use Rattle.rb_causes.specs.declared.row.Row.{Row}
use Rattle.rb_marks.specs.Results.{same_leaf}
use Rattle.rb_marks.specs.declared.mark.Leaf.{Leaf}
use Rattle.rb_marks.proofs.Growing.{same_leaf_refl, same_leaf_true}
use Rattle.rb_log.specs.Claims.{leaf_number_in}
use Rattle.rb_log.specs.Executions.{Execution, execution_among, executions}
use Rattle.rb_log.specs.Legal.{open_leaf}
use Rattle.rb_log.specs.Rows.{leaf_at, leaf_number}
use Rattle.rb_log.specs.declared.task.OpenLeaf.{OpenLeaf}
use Rattle.rb_changes.proofs.EndedRows.{OpenAt}
use Rattle.rb_desk.specs.Following.{has_leaf_number, has_numbers}

-- ---- the first that has the numbers

find_alike : {A : Type 0} (p q : A → Bool) → ((x : A) → p x ≡ q x) → (xs : List A)
    → find p xs ≡ find q xs
find_alike p q same [] = refl
find_alike p q same (x ∷ xs) = rw (same x, find_alike p q same xs) refl

never : {A : Type 0} (p : A → Bool) → ((x : A) → p x ≡ false) → (xs : List A)
    → find p xs ≡ None
never p none [] = refl
never p none (x ∷ xs) = rw (none x, never p none xs) refl

numbered_by : (b : Bool) (es : List Execution) (number n : ℕ) (o : OpenLeaf)
    (e : Option Execution) → nat_eq o.execution number ≡ b → execution_among number es ≡ e
    → (b && has_leaf_number n o (execution_among o.execution es)) ≡ (b && has_leaf_number n o e)
numbered_by true es number n o e same is =
    ap (has_leaf_number n o)
    (ap (λ k. execution_among k es) (eqb-true o.execution number same) ∙ is)
numbered_by false es number n o e same is = refl

numbered : (es : List Execution) (number n : ℕ) (e : Option Execution)
    → execution_among number es ≡ e → (o : OpenLeaf)
    → has_numbers es number n o ≡ (nat_eq o.execution number && has_leaf_number n o e)
numbered es number n e is o = numbered_by (nat_eq o.execution number) es number n o e refl is

and_false : (b : Bool) → (b && false) ≡ false
and_false true = refl
and_false false = refl

numbers_find : (es : List Execution) (number n : ℕ) (e : Option Execution)
    → execution_among number es ≡ e → (leaves : List OpenLeaf)
    → find (has_numbers es number n) leaves ≡ open_leaf leaves number n e
numbers_find es number n None is leaves =
    never (has_numbers es number n)
    (λ o. numbered es number n None is o ∙ and_false (nat_eq o.execution number)) leaves
numbers_find es number n (Some e) is leaves =
    find_alike (has_numbers es number n) _ (numbered es number n (Some e) is) leaves

pub found_open : (es : List Execution) (number n : ℕ) (leaves : List OpenLeaf)
    → find (has_numbers es number n) leaves
    ≡ open_leaf leaves number n (execution_among number es)
found_open es number n leaves = numbers_find es number n (execution_among number es) refl leaves

-- what passes is the first of what is left
pub found_there : {A : Type 0} (p : A → Bool) (xs : List A) (i : ℕ) (d : A) → i < length xs
    → p (get_or xs i d) ≡ true → find p (drop i xs) ≡ Some (get_or xs i d)
found_there p xs i d low passes = rw (drop_more xs i d low, passes) refl

-- where the numbers are these
pub numbers_here : (es : List Execution) (number n : ℕ) (o : OpenLeaf) → o.execution ≡ number
    → has_leaf_number n o (execution_among o.execution es) ≡ has_numbers es number n o
numbers_here es number n o is =
    let same : nat_eq o.execution number ≡ true = grind (arith, is) in
    ap (λ b. b && has_leaf_number n o (execution_among o.execution es)) (sym same)

-- what is found is open
pub open_leaf_in : (leaves : List OpenLeaf) (number n : ℕ) (e : Option Execution)
    (claimed : OpenLeaf) → open_leaf leaves number n e ≡ Some claimed → Contains leaves claimed
open_leaf_in leaves number n None claimed h = absurd (grind (arith, h))
open_leaf_in leaves number n (Some e) claimed h =
    let found = find_gives _ leaves claimed h in (
      found.0,
      slice_get_within leaves found.0 claimed found.1,
      get_or_from_slice_get leaves found.0 claimed claimed found.1,
    )

-- ---- by the number of a leaf

number_of : (slots n : ℕ) (leaf : Leaf) → same_leaf leaf (leaf_at slots n) ≡ true
    → leaf_number slots leaf ≡ n
number_of slots n leaf same =
    ap (leaf_number slots) (same_leaf_true leaf (leaf_at slots n) same) ∙ div-add-mod' n slots

by_leaf : (c : Bool) (slots n : ℕ) (leaf : Leaf) → same_leaf leaf (leaf_at slots n) ≡ c
    → nat_eq (leaf_number slots leaf) n ≡ false → false ≡ c
by_leaf true slots n leaf same apart =
    let equal : nat_eq n n ≡ true = grind arith in
    sym apart ∙ ap (λ k. nat_eq k n) (number_of slots n leaf same) ∙ equal
by_leaf false slots n leaf same apart = refl

by_number : (b : Bool) (slots n : ℕ) (leaf : Leaf) → nat_eq (leaf_number slots leaf) n ≡ b
    → leaf_at slots (leaf_number slots leaf) ≡ leaf → b ≡ same_leaf leaf (leaf_at slots n)
by_number true slots n leaf is kept =
    sym (same_leaf_refl leaf)
    ∙ ap (same_leaf leaf)
    (sym kept ∙ ap (leaf_at slots) (eqb-true (leaf_number slots leaf) n is))
by_number false slots n leaf is kept =
    by_leaf (same_leaf leaf (leaf_at slots n)) slots n leaf refl is

pub leaf_numbered : (past : List Row) (claimed : OpenLeaf) (place n : ℕ)
    (o : OpenAt past claimed place)
    → nat_eq (leaf_number_in o.execution claimed.leaf) n
    ≡ has_leaf_number n claimed (execution_among claimed.execution (executions past))
leaf_numbered past claimed place n o =
    let slots = o.execution.accepted.plan.slots in
    by_number (nat_eq (leaf_number slots claimed.leaf) n) slots n claimed.leaf refl o.leaf
    ∙ ap (has_leaf_number n claimed) (sym o.among)
