-- What is counted in the demo: executions, and nodes.
use Rattle.std.proofs.Common.{◌≡◌, ◌∙◌, ◌<◌, ◌+◌, ℕ, zero, suc, List, [], ◌∷◌, length, reverse, filter, find, take, slice_get, nat_eq, Bool, true, false, Option, Some, option_map, unwrap_or, ap, sym, subst, refl, arith, length-append, if◌then◌else◌}
use Rattle.std.proofs.lemmas.List.{reverse-append}
use Rattle.std.proofs.lemmas.List.Elements.{filter-append}
use Rattle.std.proofs.lemmas.Bool.{eq-eqb, ne_eqb}
use Rattle.rb_causes.specs.declared.row.Row.{Row}
use Rattle.rb_marks.specs.declared.mark.Status.{Status}
use Rattle.rb_marks.specs.declared.mark.Status.TheVariants.{Running, Succeeded, Failed, Aborted, Incomplete}
use Rattle.rb_log.specs.Executions.{Execution, execution_status, executions}
use Rattle.rb_log.specs.Laws.{AcceptsBegin, ExecutionsAreNumbered}
use Rattle.rb_log.specs.Legal.{IsLegalLog}
use Rattle.rb_log.specs.LogState.{log_state}
use Rattle.rb_log.specs.Looks.{status_number}
use Rattle.rb_log.specs.Rows.{is_accept}
use Rattle.rb_desk.specs.Statuses.{status_in}
use Rattle.rb_desk.proofs.DeskAt.{get_there}
use Rattle.rb_demo.specs.Counting.{has_succeeded, is_succeeded}

abbrev pub bit : Bool → ℕ
bit b = if b then 1 else 0

-- ---- as many in either order

pub passing : {A : Type 0} (p : A → Bool) (x : A) (b : Bool) → p x ≡ b
    → length (filter p (x ∷ [])) ≡ bit b
passing p x true h = rw h refl
passing p x false h = rw h refl

pub more : {A : Type 0} (p : A → Bool) (x : A) (xs : List A)
    → length (filter p (x ∷ xs)) ≡ bit (p x) + length (filter p xs)
more p x xs =
    ap length (filter-append p (x ∷ []) xs)
    ∙ length-append (filter p (x ∷ [])) (filter p xs)
    ∙ ap (λ n. n + length (filter p xs)) (passing p x (p x) refl)

pub turned : {A : Type 0} (p : A → Bool) (xs : List A)
    → length (filter p (reverse xs)) ≡ length (filter p xs)
turned p [] = refl
turned p (x ∷ xs) =
    let split = ap (λ ys. length (filter p ys)) (reverse-append (x ∷ []) xs)
    ∙ ap length (filter-append p (reverse xs) (x ∷ []))
    ∙ length-append (filter p (reverse xs)) (filter p (x ∷ [])) in
    let last = passing p x (p x) refl in
    let first = more p x xs in
    omega (arith, split, last, first, turned p xs)

-- ---- each Accept row begins an execution

executions_counted : AcceptsBegin → (past : List Row) → IsLegalLog past
    → length (executions past) ≡ length (filter is_accept past)
executions_counted law [] h = refl
executions_counted law (row ∷ past) h =
    omega (arith, law row past h, more is_accept row past, executions_counted law past h.0)

-- ---- the first executions

found_at : (b : Bool) (x : Execution) (o : Option Execution) → b ≡ true
    → (if b then Some x else o) ≡ Some x
found_at true x o h = refl
found_at false x o h = absurd (cc)

found_past : (b : Bool) (x : Execution) (o : Option Execution) → b ≡ false
    → (if b then Some x else o) ≡ o
found_past true x o h = absurd (cc)
found_past false x o h = refl

-- of executions that are numbered behind n, the one at a place is found by its number
found : (n : ℕ) (es : List Execution) (k : ℕ) (e : Execution)
    → ((j : ℕ) (x : Execution) → slice_get es j ≡ Some x → x.number ≡ suc (n + j))
    → slice_get es k ≡ Some e → find (λ x. nat_eq x.number (suc (n + k))) es ≡ Some e
found n [] k e h get = absurd (cc)
found n (x ∷ es) zero e h get =
    found_at (nat_eq x.number (suc (n + 0))) x (find (λ y. nat_eq y.number (suc (n + 0))) es)
    (eq-eqb x.number (suc (n + 0)) (h zero x refl))
    ∙ get
found n (x ∷ es) (suc k) e h get =
    let first : x.number ≡ suc (n + 0) = h zero x refl in
    let over : suc n + k ≡ n + suc k = omega arith in
    found_past (nat_eq x.number (suc (n + suc k))) x (find (λ y. nat_eq y.number (suc (n + suc k))) es)
    (ne_eqb x.number (suc (n + suc k)) (λ same. omega (arith, first, same)))
    ∙ subst (λ m. find (λ y. nat_eq y.number (suc m)) es ≡ Some e) over
    (found (suc n) es k e
    (λ j y g. let get_there = h (suc j) y g in let less : n + suc j ≡ suc n + j = omega arith in
    get_there ∙ ap suc less) get)

-- one more of a list is counted where it passes
one_more : {A : Type 0} (p : A → Bool) (xs : List A) (k : ℕ) (x : A) → slice_get xs k ≡ Some x
    → length (filter p (take (suc k) xs)) ≡ length (filter p (take k xs)) + bit (p x)
one_more p [] k x get = absurd (cc)
one_more p (y ∷ xs) zero x get =
    let same : y ≡ x = ap (λ o. unwrap_or o y) get in
    let one = passing p y (p y) refl in
    let bits = ap (λ z. bit (p z)) same in
    omega (arith, one, bits)
one_more p (y ∷ xs) (suc k) x get =
    let longer = more p y (take (suc k) xs) in
    let shorter = more p y (take k xs) in
    let rest = one_more p xs k x get in
    omega (arith, longer, shorter, rest)

success_is : (status : Status) → is_succeeded (Some status)
    ≡ nat_eq (status_number Succeeded) (status_number status)
success_is Running = refl
success_is Succeeded = refl
success_is Failed = refl
success_is Aborted = refl
success_is Incomplete = refl

-- the execution of the next number is counted where it has succeeded
pub success_more : ExecutionsAreNumbered → (past : List Row) (k : ℕ) → k < length (executions past)
    → length (filter has_succeeded (take (suc k) (executions past)))
    ≡ length (filter has_succeeded (take k (executions past)))
    + bit (is_succeeded (status_in (log_state past) (suc k)))
success_more law past k low =
    let at = get_there (executions past) k low in
    let number : suc (0 + k) ≡ suc k = omega arith in
    let found_it = subst (λ n. find (λ e. nat_eq e.number n) (executions past) ≡ Some at.0) number
    (found 0 (executions past) k at.0
    (λ j x g. let is = law past j x g in let more : suc j ≡ suc (0 + j) = omega arith in is ∙ more)
    at.1) in
    let status : is_succeeded (status_in (log_state past) (suc k)) ≡ has_succeeded at.0 =
    ap (λ o. is_succeeded (option_map execution_status o)) found_it
    ∙ success_is (execution_status at.0) in
    let step = one_more has_succeeded (executions past) k at.0 at.1 in
    let bits = ap bit status in
    omega (arith, step, bits)

-- as many executions as Accept rows
pub accepts_counted : AcceptsBegin → (log : List Row) → IsLegalLog (reverse log)
    → length (filter is_accept log) ≡ length (executions (reverse log))
accepts_counted law log legal =
    sym (executions_counted law (reverse log) legal ∙ turned is_accept log)
