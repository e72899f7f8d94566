-- What a connection to a store in memory holds between calls.
use Rattle.std.proofs.Common.{◌≡◌, inl, inr, ℤ, pos, ◌+ℤ◌, true, false, List, ◌++◌, length, length-append, Ok, Err, Result, IfOk, OnOk, OnErr, IsTrue, sym, ap, subst, ◌∙◌, arith}
use Rattle.sqlite_trees.specs.declared.memory.MemStore.{MemStore}
use Rattle.sqlite.specs.Effect.{Database}
use Rattle.sqlite.specs.Held.{Held, state}
use Rattle.sqlite.specs.State.{HasCleanDisk}
use Rattle.sqlite.specs.Steps.{over_memory}
use Rattle.sqlite.proofs.Callers.{memory_is_clean}
use Rattle.rb_causes.specs.declared.row.Row.{Row}
use Rattle.rb_keep.specs.Passing.{Passes, IsAsBefore}
use Rattle.rb_keep.specs.Stores.{IsKept, has_shape}
use Rattle.rb_keep.specs.Tables.{First, Second, Holds, Stores, Adds, rows_of}
use Rattle.rb_keep.proofs.Held.{rows_stored, shape_told}
use Rattle.rb_keep.proofs.Settling.{count_more}

abbrev pub shown : Held MemStore → Database
shown conn = (state over_memory conn).now

pub on_error : {T E P : Type 0} (r : Result T E) → P → OnErr r P
on_error (Ok value) p = tt
on_error (Err error) p = p

module _ (a b : Held MemStore) (last : ℤ) (kept : IsKept a last) (idle : a.in_transaction ≡ false → b.in_transaction ≡ false) (passes : Passes (state over_memory a) (state over_memory b)) where
  -- no store in memory is shut
  pub open_still : IsTrue (state over_memory b).is_open
  open_still = elim (passes.closes (memory_is_clean b) kept.open_still) [ inl still ↦ still | inr fault ↦ absurd (omega (arith, fault)) ]

  pub as_before : (HasCleanDisk (state over_memory b) → IsAsBefore (state over_memory a) (state over_memory b)) → shown b ≡ shown a
  as_before refused = refused (memory_is_clean b) open_still

  pub kept_as_before : shown b ≡ shown a → IsKept b last
  kept_as_before same = record {
    open_still = open_still;
    idle = idle kept.idle;
    held = subst (λ db. Stores db (rows_of db)) (sym same) kept.held;
    count = subst (λ db. last ≡ pos (length (rows_of db))) (sym same) kept.count;
  }

  pub kept_with : (log : List Row) (count : ℤ) → Stores (shown b) log → count ≡ pos (length log) → IsKept b count
  kept_with log count stores is =
      let rows = rows_stored (shown b) log stores in
      record { open_still = open_still; idle = idle kept.idle; held = subst (Stores (shown b)) (sym rows) stores; count = is ∙ sym (ap (λ (l : List Row). pos (length l)) rows) }

  -- rows stand behind those that were held
  pub kept_longer : (more : List Row) (count : ℤ) → count ≡ last +ℤ pos (length more) → Stores (shown b) (rows_of (shown a) ++ more) → IsKept b count
  kept_longer more count is stores =
      let rows = rows_of (shown a) in
      kept_with (rows ++ more) count stores (is ∙ count_more last (length rows) (length more) kept.count ∙ ap (λ n. pos n) (sym (length-append rows more)))

  -- where there is a table for the number of the format, rows are added
  pub stores_behind : (more : List Row) → has_shape a.schema ≡ true → Adds last more (shown a) (shown b) → Stores (shown b) (rows_of (shown a) ++ more)
  stores_behind more shaped adds = elim kept.held [
    | inl bare ↦ absurd (let none : false ≡ true = sym shape_told.0 ∙ sym (ap has_shape bare.0) ∙ shaped in cc)
    | inr holds ↦ elim holds [
      | inl one ↦ inr (inl (adds First (rows_of (shown a)) kept.count one))
      | inr two ↦ inr (inr (adds Second (rows_of (shown a)) kept.count two))
    ]
  ]

  -- all rows are read, and the format is changed where it has to be
  module _ {V E : Type 0} (items : V → List Row) (r : Result V E) (refused : HasCleanDisk (state over_memory b) → OnErr r (IsAsBefore (state over_memory a) (state over_memory b)))
      (settled : HasCleanDisk (state over_memory b) → IfOk r (λ v. (log : List Row) → Stores (shown a) log → (items v ≡ log) × Holds Second (shown b) log)) where
    pub kept_all : IsKept b last
    kept_all = elim r as (λ it. OnErr it (IsAsBefore (state over_memory a) (state over_memory b)) → IfOk it (λ v. (log : List Row) → Stores (shown a) log → (items v ≡ log) × Holds Second (shown b) log) → IsKept b last) [
      | Ok v ↦ λ no all. kept_with (rows_of (shown a)) last (inr (inr (all (rows_of (shown a)) kept.held).1)) kept.count
      | Err e ↦ λ same all. kept_as_before (same open_still)
    ] (refused (memory_is_clean b)) (settled (memory_is_clean b))

    pub rows_all : rows_of (shown b) ≡ rows_of (shown a)
    rows_all = elim r as (λ it. OnErr it (IsAsBefore (state over_memory a) (state over_memory b)) → IfOk it (λ v. (log : List Row) → Stores (shown a) log → (items v ≡ log) × Holds Second (shown b) log) → rows_of (shown b) ≡ rows_of (shown a)) [
      | Ok v ↦ λ no all. rows_stored (shown b) (rows_of (shown a)) (inr (inr (all (rows_of (shown a)) kept.held).1))
      | Err e ↦ λ same all. ap rows_of (same open_still)
    ] (refused (memory_is_clean b)) (settled (memory_is_clean b))

    pub read_all : IfOk r (λ v. items v ≡ rows_of (shown a))
    read_all = elim r as (λ it. IfOk it (λ v. (log : List Row) → Stores (shown a) log → (items v ≡ log) × Holds Second (shown b) log) → IfOk it (λ v. items v ≡ rows_of (shown a))) [
      | Ok v ↦ λ all. (all (rows_of (shown a)) kept.held).0
      | Err e ↦ λ all. tt
    ] (settled (memory_is_clean b))

    pub shaped_all : OnOk r (has_shape b.schema ≡ true)
    shaped_all = elim r as (λ it. IfOk it (λ v. (log : List Row) → Stores (shown a) log → (items v ≡ log) × Holds Second (shown b) log) → OnOk it (has_shape b.schema ≡ true)) [
      | Ok v ↦ λ all. ap has_shape (all (rows_of (shown a)) kept.held).1.schema ∙ shape_told.2
      | Err e ↦ λ all. tt
    ] (settled (memory_is_clean b))
