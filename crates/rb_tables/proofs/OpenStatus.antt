-- Whether a leaf of an execution is open, by the open leaves of the log.
use Rattle.std.proofs.Common.{◌≡◌, ◌∙◌, ℕ, List, [], ◌∷◌, ◌++◌, Bool, true, false, ◌||◌, nat_eq, Option, Some, None, is_some, slice_get, unwrap_or, ap, sym, subst, refl, arith, if◌then◌else◌}
use Rattle.std.specs.List.{list_any, list_all}
use Rattle.std.proofs.lemmas.Bool.{eqb-true, and_parts, or_from, not-true, false_from_ne_true}
use Rattle.rb_causes.specs.declared.row.Row.{Row}
use Rattle.rb_marks.specs.Results.{leaf_result, same_leaf}
use Rattle.rb_marks.specs.Units.{Outline, is_settled, units_of, result_of}
use Rattle.rb_marks.specs.First.{first_startable, is_begin_of, is_good, is_lost, is_open, open_begin, status_of, stops}
use Rattle.rb_marks.specs.declared.mark.Leaf.{Leaf}
use Rattle.rb_marks.specs.declared.mark.Mark.{Mark}
use Rattle.rb_marks.specs.declared.mark.Mark.TheVariants.{Begin, End, Abort, Lost, Withdraw}
use Rattle.rb_marks.specs.declared.mark.Status.{Status}
use Rattle.rb_marks.specs.declared.mark.Status.TheVariants as status
use Rattle.rb_marks.proofs.Counts.{any_more, any_here, any_same, any_wider, none_narrower}
use Rattle.rb_marks.proofs.Growing.{abort_leaves_open, same_leaf_refl}
use Rattle.rb_marks.proofs.Waits.{first_goes_on}
use Rattle.rb_log.specs.Executions.{Execution, executions, execution_among, execution_status, is_running, is_running_status}
use Rattle.rb_log.specs.Legal.{IsLegalLog}
use Rattle.rb_log.specs.Runs.{aborted}
use Rattle.rb_log.specs.Sums.{open_leaves}
use Rattle.rb_log.specs.declared.task.OpenLeaf.{OpenLeaf}
use Rattle.rb_log.proofs.MarkCounts.{lost_stops}
use Rattle.rb_tables.specs.Running.{aborted_status, has_open_leaf, runs}
use Rattle.rb_tables.specs.LogLaws.{LogLaws}
use Rattle.rb_tables.proofs.Lists.{any_from, any_gives, both_ways}
use Rattle.rb_tables.proofs.Marked.{found_at}
use Rattle.rb_tables.proofs.OpenListed.{all_listed, is_open_by, is_that, open_any}

-- ---- an open leaf of an execution

begun_at : (ms : List Mark) (m : Mark) → open_begin ms m ≡ true
    → (leaf : Leaf) × (is_begin_of leaf m ≡ true) × (is_settled (leaf_result ms leaf) ≡ false)
begun_at ms (Begin leaf) h =
    (leaf, same_leaf_refl leaf, not-true (is_settled (leaf_result ms leaf)) h)
begun_at ms (End leaf ending) h = absurd (grind (arith, h))
begun_at ms Abort h = absurd (grind (arith, h))
begun_at ms Lost h = absurd (grind (arith, h))
begun_at ms (Withdraw node) h = absurd (grind (arith, h))

pub any_open : (ms : List Mark) → list_any (open_begin ms) ms ≡ true
    → (leaf : Leaf) × (is_open ms leaf ≡ true)
any_open ms h =
    let g = any_gives (open_begin ms) ms h in
    let at = begun_at ms g.1 g.3 in
    (at.0, is_open_by ms at.0 (any_from (is_begin_of at.0) ms g.0 g.1 g.2 at.1) at.2)

-- the open leaf at an index, where it is of the execution
pub open_in : LogLaws → (past : List Row) (k : ℕ) (e : Execution) → IsLegalLog past
    → slice_get (executions past) k ≡ Some e → (j : ℕ) (o : OpenLeaf)
    → slice_get (open_leaves past) j ≡ Some o → nat_eq o.execution e.number ≡ true
    → (is_open e.marks o.leaf ≡ true) × (list_any is_lost e.marks ≡ false)
open_in laws past k e legal get j o there number =
    let is = laws.opens past j o legal there in
    let same : is.execution ≡ e = ap (λ x. unwrap_or x e)
    (sym is.found
    ∙ ap (λ n. execution_among n (executions past)) (eqb-true o.execution e.number number)
    ∙ found_at laws.numbered past k e get) in (
      subst (λ (z : Execution). is_open z.marks o.leaf ≡ true) same is.stays_open,
      subst (λ (z : Execution). list_any is_lost z.marks ≡ false) same is.kept,
    )

open_of : LogLaws → (past : List Row) (k : ℕ) (e : Execution) → IsLegalLog past
    → slice_get (executions past) k ≡ Some e → has_open_leaf e.number (open_leaves past) ≡ true
    → (leaf : Leaf) × (is_open e.marks leaf ≡ true) × (list_any is_lost e.marks ≡ false)
open_of laws past k e legal get h =
    let g = any_gives (λ l. nat_eq l.execution e.number) (open_leaves past) h in
    let is = open_in laws past k e legal get g.0 g.1 g.2 g.3 in
    (g.1.leaf, is.0, is.1)

pub opens_are_told : LogLaws → (past : List Row) (k : ℕ) (e : Execution) → IsLegalLog past
    → slice_get (executions past) k ≡ Some e → list_any is_lost e.marks ≡ false
    → list_any (open_begin e.marks) e.marks ≡ has_open_leaf e.number (open_leaves past)
opens_are_told laws past k e legal get kept =
    both_ways (list_any (open_begin e.marks) e.marks) (has_open_leaf e.number (open_leaves past))
    (λ h.
    let o = any_open e.marks h in
    any_wider (is_that e.number o.0) (λ l. nat_eq l.execution e.number)
    (λ l is. (and_parts (nat_eq l.execution e.number) (same_leaf l.leaf o.0) is).0)
    (open_leaves past) (all_listed laws.numbered past k e get o.0 o.1 kept))
    (λ h. let o = open_of laws past k e legal get h in open_any e.marks o.0 o.1)

-- ---- behind an abort

pub not_lost : (ms : List Mark) → list_any stops ms ≡ false → list_any is_lost ms ≡ false
not_lost ms h = none_narrower is_lost stops lost_stops ms h

none_by : (o : Option Leaf) (stopped : Bool) → stopped ≡ true
    → ((leaf : Leaf) → o ≡ Some leaf → stopped ≡ false) → is_some o ≡ false
none_by None stopped h f = refl
none_by (Some leaf) stopped h f =
    absurd (let wrong : true ≡ false = sym h ∙ f leaf refl in grind (arith, wrong))

-- nothing starts
pub aborts_stop : (p : Outline) (ms : List Mark)
    → is_some (first_startable p (ms ++ Abort ∷ [])) ≡ false
aborts_stop p ms =
    none_by (first_startable p (ms ++ Abort ∷ [])) (list_any stops (ms ++ Abort ∷ []))
    (any_here stops ms Abort refl)
    (λ leaf is. first_goes_on p (ms ++ Abort ∷ []) leaf is)

pub opens_behind : (ms : List Mark)
    → list_any (open_begin (ms ++ Abort ∷ [])) (ms ++ Abort ∷ []) ≡ list_any (open_begin ms) ms
opens_behind ms =
    any_more (open_begin (ms ++ Abort ∷ [])) ms Abort refl
    ∙ any_same (open_begin (ms ++ Abort ∷ [])) (open_begin ms) (abort_leaves_open ms) ms

abbrev pub status_by : (lost opened starts stopped good : Bool) → Status
status_by lost opened starts stopped good =
    if lost then status.Incomplete else if opened || starts then status.Running else if stopped
    then status.Aborted else if good then status.Succeeded else status.Failed

by_tests : (lost opened starts stopped good b : Bool) → lost ≡ false → opened ≡ b → starts ≡ false
    → stopped ≡ true
    → status_by lost opened starts stopped good ≡ (if b then status.Running else status.Aborted)
by_tests true opened starts stopped good b h i j k = absurd (grind (arith, h))
by_tests false true starts stopped good true h i j k = refl
by_tests false true starts stopped good false h i j k = absurd (grind (arith, i))
by_tests false false true stopped good b h i j k = absurd (grind (arith, j))
by_tests false false false false good b h i j k = absurd (grind (arith, k))
by_tests false false false true good true h i j k = absurd (grind (arith, i))
by_tests false false false true good false h i j k = refl

abort_tells : (p : Outline) (ms : List Mark) (b : Bool) → list_any stops ms ≡ false
    → list_any (open_begin ms) ms ≡ b
    → status_of p (ms ++ Abort ∷ []) ≡ (if b then status.Running else status.Aborted)
abort_tells p ms b h is =
    by_tests (list_any is_lost (ms ++ Abort ∷ []))
    (list_any (open_begin (ms ++ Abort ∷ [])) (ms ++ Abort ∷ []))
    (is_some (first_startable p (ms ++ Abort ∷ []))) (list_any stops (ms ++ Abort ∷ []))
    (list_all (λ u. is_good (result_of p (ms ++ Abort ∷ []) u)) (units_of p)) b
    (any_more is_lost ms Abort refl ∙ not_lost ms h) (opens_behind ms ∙ is) (aborts_stop p ms)
    (any_here stops ms Abort refl)

-- the status of an execution that was not stopped, once it is aborted
pub aborted_is : LogLaws → (past : List Row) (k : ℕ) (e : Execution) → IsLegalLog past
    → slice_get (executions past) k ≡ Some e → list_any stops e.marks ≡ false
    → execution_status (aborted e) ≡ aborted_status e.number (open_leaves past)
aborted_is laws past k e legal get h =
    abort_tells e.accepted.plan e.marks (has_open_leaf e.number (open_leaves past)) h
    (opens_are_told laws past k e legal get (not_lost e.marks h))

-- ---- whether an execution runs

tests_run : (lost opened starts stopped good : Bool) → lost ≡ false
    → is_running_status (status_by lost opened starts stopped good) ≡ (opened || starts)
tests_run true opened starts stopped good h = absurd (grind (arith, h))
tests_run false true starts stopped good h = refl
tests_run false false true stopped good h = refl
tests_run false false false true good h = refl
tests_run false false false false true h = refl
tests_run false false false false false h = refl

-- where the open leaves are told, so is whether it runs
pub told_if : (e : Execution) (leaves : List OpenLeaf) → list_any is_lost e.marks ≡ false
    → list_any (open_begin e.marks) e.marks ≡ has_open_leaf e.number leaves
    → runs e leaves ≡ is_running e
told_if e leaves kept h =
    let starts : Bool = is_some (first_startable e.accepted.plan e.marks) in
    ap (λ b. b || starts) (sym h)
    ∙ sym (tests_run (list_any is_lost e.marks) (list_any (open_begin e.marks) e.marks) starts
    (list_any stops e.marks)
    (list_all (λ u. is_good (result_of e.accepted.plan e.marks u)) (units_of e.accepted.plan))
    kept)

lost_ends : (e : Execution) (lost : Bool) (other : Status) → lost ≡ true
    → is_running_status (if lost then status.Incomplete else other) ≡ false
lost_ends e true other h = refl
lost_ends e false other h = absurd (grind (arith, h))

-- no leaf of a lost one is open
lost_closed : LogLaws → (past : List Row) (k : ℕ) (e : Execution) → IsLegalLog past
    → slice_get (executions past) k ≡ Some e → list_any is_lost e.marks ≡ true
    → has_open_leaf e.number (open_leaves past) ≡ false
lost_closed laws past k e legal get lost =
    false_from_ne_true (has_open_leaf e.number (open_leaves past)) (λ yes.
    let o = open_of laws past k e legal get yes in
    let wrong : false ≡ true = sym o.2 ∙ lost in
    grind (arith, wrong))

told_by : LogLaws → (past : List Row) (k : ℕ) (e : Execution) (lost : Bool) → IsLegalLog past
    → slice_get (executions past) k ≡ Some e → list_any is_lost e.marks ≡ lost
    → runs e (open_leaves past) ≡ is_running e
told_by laws past k e false legal get is =
    told_if e (open_leaves past) is (opens_are_told laws past k e legal get is)
told_by laws past k e true legal get is =
    or_from (has_open_leaf e.number (open_leaves past)) _ (lost_closed laws past k e legal get is)
    (none_by (first_startable e.accepted.plan e.marks) (list_any is_lost e.marks) is
    (λ leaf h. not_lost e.marks (first_goes_on e.accepted.plan e.marks leaf h)))
    ∙ sym (lost_ends e (list_any is_lost e.marks) _ is)

-- of every execution of a legal log
pub runs_told : LogLaws → (past : List Row) (k : ℕ) (e : Execution) → IsLegalLog past
    → slice_get (executions past) k ≡ Some e → runs e (open_leaves past) ≡ is_running e
runs_told laws past k e legal get = told_by laws past k e (list_any is_lost e.marks) legal get refl
