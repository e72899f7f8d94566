-- The program of a row stays, once it has its End.
use Rattle.std.proofs.Common.{◌≡◌, ◌≤◌, ◌<◌, ◌-◌, ℕ, zero, suc, List, [], ◌∷◌, ◌++◌, take, drop, length, reverse, sym, subst, refl, arith, Bool, true, false, cond, Option, Some, None, option_map, option_to_list, find, slice_get, if◌then◌else◌}
use Rattle.std.specs.Option.{option_and_then}
use Rattle.std.proofs.lemmas.List.{take-append-le, drop-append-le}
use Rattle.rb_causes.specs.declared.row.Row.{Row}
use Rattle.rb_causes.specs.declared.spawner.SpawnRun.{SpawnRun}
use Rattle.rb_log.specs.Rows.{is_begin, ending_of}
use Rattle.rb_log.specs.Executions.{Execution, executions, execution_among}
use Rattle.rb_log.specs.Programs.{is_end_of, run_begun, program_of, program_if}
use Rattle.rb_log.specs.Laws.{ProgramStays}

-- what is found stays found where more is put behind
find_if : {A : Type 0} (b : Bool) (x : A) (found found' : Option A)
    → ((y : A) → found ≡ Some y → found' ≡ Some y) → (y : A) → cond b (Some x) found ≡ Some y
    → cond b (Some x) found' ≡ Some y
find_if true x found found' k y h = h
find_if false x found found' k y h = k y h

pub find_stays : {A : Type 0} (test : A → Bool) (xs more : List A) (y : A) → find test xs ≡ Some y
    → find test (xs ++ more) ≡ Some y
find_stays test [] more y h = grind (arith, h)
find_stays test (x ∷ xs) more y h =
    find_if (test x) x (find test xs) (find test (xs ++ more)) (find_stays test xs more) y h

abbrev run_by : Row → Option Execution → Option Row → List SpawnRun
run_by begin e found =
    option_to_list
    (option_and_then (λ e. run_begun begin e (option_map (λ row. ending_of row.c) found)) e)

run_stays : (begin : Row) (e : Option Execution) (found found' : Option Row) (run : SpawnRun)
    → ((y : Row) → found ≡ Some y → found' ≡ Some y) → run_by begin e found ≡ run ∷ []
    → run_by begin e found' ≡ run ∷ []
run_stays begin None found found' run k h = h
run_stays begin (Some e) None found' run k h = grind (arith, h)
run_stays begin (Some e) (Some row) found' run k h =
    subst (λ f. run_by begin (Some e) f ≡ run ∷ []) (sym (k row refl)) h

if_stays : (b : Bool) (xs ys : List SpawnRun) (run : SpawnRun) → (xs ≡ run ∷ [] → ys ≡ run ∷ [])
    → (if b then xs else []) ≡ run ∷ [] → (if b then ys else []) ≡ run ∷ []
if_stays true xs ys run k h = k h
if_stays false xs ys run k h = h

pub get_stays : {A : Type 0} (xs more : List A) (n : ℕ) → n < length xs
    → slice_get (xs ++ more) n ≡ slice_get xs n
get_stays [] more n h = absurd (omega (arith, h))
get_stays (x ∷ xs) more zero h = refl
get_stays (x ∷ xs) more (suc n) h = get_stays xs more n (omega (arith, h))

program_if_stays : (log more : List Row) (n : ℕ) (row : Option Row) (run : SpawnRun) → 0 < n
    → n ≤ length log → program_if log n row ≡ run ∷ [] → program_if (log ++ more) n row ≡ run ∷ []
program_if_stays log more n None run low high h = h
program_if_stays log more n (Some row) run low high h =
    if_stays (is_begin row) _ _ run
    (λ k. subst (λ past. option_to_list (program_of (reverse past) row (drop n (log ++ more)))
    ≡ run ∷ []) (sym (take-append-le (n - 1) log more (omega (arith, low, high))))
    (subst (λ later. option_to_list (program_of (reverse (take (n - 1) log)) row later) ≡ run ∷ [])
    (sym (drop-append-le n log more high))
    (run_stays row (execution_among row.a (executions (reverse (take (n - 1) log)))) _ _ run
    (find_stays (is_end_of row) (drop n log) more) k)))
    h

pub program_stays : ProgramStays
program_stays log more n run low high h =
    subst (λ row. program_if (log ++ more) n row ≡ run ∷ [])
    (sym (get_stays log more (n - 1) (omega (arith, low, high))))
    (program_if_stays log more n (slice_get log (n - 1)) run low high h)
