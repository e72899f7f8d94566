-- What the queries of a store show of its tables.
use Rattle.std.proofs.Common.{◌≡◌, inl, inr, ℕ, ◌+◌, ◌<◌, ℤ, pos, IfOk, Option, List, [], ◌∷◌, map, Some, None, Ok, Err, Result, refl, sym, ap, subst, ◌∙◌, arith, Less}
use Rattle.std.specs.List.{AllByRecursion, flat_map}
use Rattle.std.specs.List.Sorted.{IsPermutation}
use Rattle.std.proofs.lemmas.List.Sorted.{length_permutation}
use Rattle.sqlite.specs.declared.types.Value.TheVariants.{Null, Int}
use Rattle.sqlite.specs.Order.{Row as Stored}
use Rattle.sqlite.specs.Listing.{understood}
use Rattle.sqlite.specs.Program.{overlay}
use Rattle.sqlite.specs.Query.{Output, IsAnswer, output, output_cmp, page}
use Rattle.sqlite.specs.State.{State, IsUnchanged, Shown, ShowsRows}
use Rattle.sqlite.specs.Clock.{timed}
use Rattle.sqlite.proofs.Callers.{IsPlain, reads_as, one_permutation}
use Rattle.sqlite_keyed.proofs.SortLemmas.{sorted_unique}
use Rattle.sqlite_sql.proofs.QueryLemmas.{output_cmp_total}
use Rattle.sqlite_trees.specs.Tree.{IsAscending}
use Rattle.rb_causes.specs.declared.row.Row.{Row}
use Rattle.rb_keep.specs.Tables.{Second, Holds, IsUnnumbered, Numbers, stored_from, given_by, row_in, format_2}
use Rattle.rb_keep.proofs.Rising.{less_numbers}
use Rattle.rb_keep.proofs.Statements.{read_shape, select, second, shape_query, entries_query, shape_read, shape_read_plain, entries_read, entries_read_plain}

-- a query changes nothing
same_shown : (sql : List ℕ) (params : Stored) (old new : State) (rows : List Stored) → IsPlain (understood old.now.schema sql) → Shown sql params old new rows → IsUnchanged old new
unfolding Shown
same_shown sql params old new rows plain h =
    let none = (subst IsPlain h.1.is plain).0 in
    (subst (ShowsRows old new sql h.0 (timed params h.0.formats h.1.now) rows) none h.2).3

no_permutation : {X : Type 0} (ys : List X) → IsPermutation [] ys → ys ≡ []
no_permutation [] h = refl
no_permutation (y ∷ ys) h = absurd (let l = length_permutation [] (y ∷ ys) h in omega (arith, l))

pub unnumbered_shown : (old new : State) (log : List Row) (rows : List Stored) → IsUnnumbered old.now log → Shown read_shape [] old new rows → (rows ≡ []) × (new.now ≡ old.now)
unnumbered_shown old new log rows holds did =
    let read = reads_as read_shape [] old new second holds.schema _ shape_read.0 shape_read_plain shape_read.1 rows did in
    let a : IsAnswer shape_query (overlay old.now.trees []) [] rows = read.answer Null in
    let staged : a.staged ≡ [] = a.grouped ∙ rw holds.unnumbered in
    let kept : a.kept ≡ [] = a.distinct ∙ ap (map (output shape_query)) staged in
    let ordered = no_permutation a.ordered (subst (λ k. IsPermutation k a.ordered) kept a.same) in
    let same = same_shown read_shape [] old new rows (subst (λ s. IsPlain (understood s read_shape)) (sym holds.schema) shape_read_plain) did in
    (a.shown ∙ ap (λ xs. page shape_query [] (map (λ (p : Output). p.1) xs)) ordered, same.0.now_is)

pub number_shown : (old new : State) (log : List Row) (rows : List Stored) → Holds Second old.now log → Shown read_shape [] old new rows → (rows ≡ (Int (pos 2) ∷ []) ∷ []) × (new.now ≡ old.now)
number_shown old new log rows holds did =
    let read = reads_as read_shape [] old new second holds.schema _ shape_read.0 shape_read_plain shape_read.1 rows did in
    let a : IsAnswer shape_query (overlay old.now.trees []) [] rows = read.answer Null in
    let staged : a.staged ≡ ([] ∷ format_2 ∷ []) ∷ [] = a.grouped ∙ rw holds.shaped in
    let o : Output = ([], Int (pos 2) ∷ []) in
    let kept : a.kept ≡ o ∷ [] = a.distinct ∙ ap (map (output shape_query)) staged in
    let ordered = one_permutation o a.ordered (subst (λ k. IsPermutation k a.ordered) kept a.same) in
    let same = same_shown read_shape [] old new rows (subst (λ s. IsPlain (understood s read_shape)) (sym holds.schema) shape_read_plain) did in
    (a.shown ∙ ap (λ xs. page shape_query [] (map (λ (p : Output). p.1) xs)) ordered, same.0.now_is)

-- what the rows are sorted by, and what is shown of them
abbrev outputs_from : ℕ → List Row → List Output
outputs_from n [] = []
outputs_from n (row ∷ rows) = (Int (pos n) ∷ [], given_by (pos n) row) ∷ outputs_from (n + 1) rows

above : (n m : ℕ) (shown : Stored) → n < m → (rows : List Row) → AllByRecursion (λ (o : Output). output_cmp entries_query (Int (pos n) ∷ [], shown) o ≡ Less) (outputs_from m rows)
above n m shown less [] = tt
above n m shown less (row ∷ rows) = (rw (less_numbers n m less), above n (m + 1) shown (omega arith) rows)

rises : (n : ℕ) (rows : List Row) → IsAscending (λ (a b : Output). output_cmp entries_query a b ≡ Less) (outputs_from n rows)
rises n [] = tt
rises n (row ∷ rows) = (above n (n + 1) (given_by (pos n) row) (omega arith) rows, rises (n + 1) rows)

put_out : (n : ℕ) (rows : List Row) → map (output entries_query) (flat_map (λ (r : Stored). ([] ∷ r ∷ []) ∷ []) (stored_from n rows)) ≡ outputs_from n rows
put_out n [] = refl
put_out n (row ∷ rows) = ap (λ rest. (Int (pos n) ∷ [], given_by (pos n) row) ∷ rest) (put_out (n + 1) rows)

read_back : (n : ℕ) (rows : List Row) → map row_in (map (λ (o : Output). o.1) (outputs_from n rows)) ≡ rows
read_back n [] = refl
read_back n (row ∷ rows) = ap (λ rest. row ∷ rest) (read_back (n + 1) rows)

pub entries_shown : (old new : State) (log : List Row) (rows : List Stored) → Holds Second old.now log → Shown select [] old new rows → (map row_in rows ≡ log) × (new.now ≡ old.now)
entries_shown old new log rows holds did =
    let read = reads_as select [] old new second holds.schema _ entries_read.0 entries_read_plain entries_read.1 rows did in
    let a : IsAnswer entries_query (overlay old.now.trees []) [] rows = read.answer Null in
    let staged : a.staged ≡ flat_map (λ (r : Stored). ([] ∷ r ∷ []) ∷ []) (stored_from 1 log) = a.grouped ∙ ap (flat_map (λ (r : Stored). ([] ∷ r ∷ []) ∷ [])) holds.rows in
    let kept : a.kept ≡ outputs_from 1 log = a.distinct ∙ ap (map (output entries_query)) staged ∙ put_out 1 log in
    let ordered : a.ordered ≡ outputs_from 1 log =
    sorted_unique (output_cmp entries_query) (output_cmp_total entries_query) (outputs_from 1 log) a.ordered (rises 1 log) (subst (λ k. IsPermutation k a.ordered) kept a.same) a.sorted in
    let shown : rows ≡ map (λ (o : Output). o.1) (outputs_from 1 log) = a.shown ∙ ap (λ xs. page entries_query [] (map (λ (p : Output). p.1) xs)) ordered in
    let same = same_shown select [] old new rows (subst (λ s. IsPlain (understood s select)) (sym holds.schema) entries_read_plain) did in
    (ap (map row_in) shown ∙ read_back 1 log, same.0.now_is)

pub numbers_read : {E : Type 0} (old new : State) (rows given : List Stored) (r : Result (Option ℤ) E) → given ≡ rows → Shown read_shape [] old new rows
    → (given ≡ [] → IfOk r (λ found. found ≡ None)) → ((n : ℤ) → given ≡ (Int n ∷ []) ∷ [] → IfOk r (λ found. found ≡ Some n)) → IfOk r (Numbers old.now new.now)
numbers_read old new rows given (Err error) same shown none first = tt
numbers_read old new rows given (Ok found) same shown none first = λ log stands. elim stands [
  | inl bare ↦ let it = unnumbered_shown old new log rows bare shown in inl (none (same ∙ it.0), subst (λ db. IsUnnumbered db log) (sym it.1) bare)
  | inr holds ↦ let it = number_shown old new log rows holds shown in inr (first (pos 2) (same ∙ it.0), subst (λ db. Holds Second db log) (sym it.1) holds)
]

pub rows_read : {V E : Type 0} (items : V → List Row) (old new : State) (rows given : List Stored) (r : Result V E) → given ≡ rows → Shown select [] old new rows
    → IfOk r (λ v. items v ≡ map row_in given) → IfOk r (λ v. (log : List Row) → Holds Second old.now log → (items v ≡ log) × Holds Second new.now log)
rows_read items old new rows given (Err error) same shown read = tt
rows_read items old new rows given (Ok v) same shown read = λ log holds.
    let it = entries_shown old new log rows holds shown in
    (read ∙ ap (map row_in) same ∙ it.0, subst (λ db. Holds Second db log) (sym it.1) holds)
