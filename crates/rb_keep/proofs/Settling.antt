-- What the steps of a change of format, and the rows that are added, add up to.
use Rattle.std.proofs.Common.{◌≡◌, inl, inr, ℕ, ◌+◌, ℤ, pos, ◌+ℤ◌, List, [], ◌∷◌, ◌++◌, length, get_or, take, ◌<◌, ◌≤◌, append-nil, append_assoc, length-append, None, Some, Ok, Err, Result, OnOk, sym, ap, subst, ◌∙◌, arith}
use Rattle.std.proofs.lemmas.Int.{ints}
use Rattle.std.proofs.lemmas.List.{take_all, take_more, length-take-le}
use Rattle.sqlite.specs.Effect.{Database}
use Rattle.rb_causes.specs.declared.row.Row.{Row}
use Rattle.rb_keep.specs.Tables.{First, Second, Holds, Stores, IsUnnumbered, Makes, Shapes, Numbers, Adds}

-- a store of the second format in which a number stands
pub settled_second : (a b c d : Database) → Makes a b → Shapes b c → Numbers c d (Some (pos 2)) → (log : List Row) → Stores a log → Holds Second d log
settled_second a b c d makes shapes numbers log stores = elim (numbers log (shapes log (makes log stores))) [
  | inl bare ↦ absurd (let e = bare.0 in cc)
  | inr holds ↦ holds.1
]

-- a store in which none stood yet
pub settled_first : {T E : Type 0} (a b c d e : Database) (r : Result T E) → Makes a b → Shapes b c → Numbers c d None
    → OnOk r ((log : List Row) → IsUnnumbered d log → Holds Second e log) → OnOk r ((log : List Row) → Stores a log → Holds Second e log)
settled_first a b c d e (Err error) makes shapes numbers written = tt
settled_first a b c d e (Ok value) makes shapes numbers written = λ log stores. elim (numbers log (shapes log (makes log stores))) [
  | inl bare ↦ written log bare.1
  | inr holds ↦ absurd (let e = holds.0 in cc)
]

pub adds_none : (last : ℤ) (a : Database) → Adds last [] a a
adds_none last a format log is holds = subst (Holds format a) (sym (append-nil log)) holds

pub count_more : (last : ℤ) (m n : ℕ) → last ≡ pos m → last +ℤ pos n ≡ pos (m + n)
count_more last m n is = grind (arith, ints, is)

pub adds_then : (last : ℤ) (rows more : List Row) (a b c : Database) → Adds last rows a b → Adds (last +ℤ pos (length rows)) more b c → Adds last (rows ++ more) a c
adds_then last rows more a b c one two format log is holds =
    let count : last +ℤ pos (length rows) ≡ pos (length (log ++ rows)) = count_more last (length log) (length rows) is ∙ ap (λ n. pos n) (sym (length-append log rows)) in
    subst (Holds format c) (append_assoc log rows more) (two format (log ++ rows) count (one format log is holds))

one_more : (last count next : ℤ) (i : ℕ) → count ≡ last +ℤ pos i → next ≡ count +ℤ pos 1 → next ≡ last +ℤ pos (i + 1)
one_more last count next i so far = grind (arith, ints, so, far)

-- one row more of those that are gone through
pub adds_next : (last count next : ℤ) (rows : List Row) (i : ℕ) (row : Row) (a b c : Database) → i < length rows → row ≡ get_or rows i row
    → (count ≡ last +ℤ pos i) × Adds last (take i rows) a b → (next ≡ count +ℤ pos 1) × Adds count (row ∷ []) b c → (next ≡ last +ℤ pos (i + 1)) × Adds last (take (i + 1) rows) a c
adds_next last count next rows i row a b c low is so more =
    let along : length (take i rows) ≡ i = length-take-le i rows (omega (arith, low)) in
    let from : count ≡ last +ℤ pos (length (take i rows)) = so.0 ∙ ap (λ n. last +ℤ pos n) (sym along) in
    let longer : take i rows ++ row ∷ [] ≡ take (i + 1) rows = ap (λ r. take i rows ++ r ∷ []) is ∙ sym (take_more rows i row low) in (
      one_more last count next i so.0 more.0,
      subst (λ all. Adds last all a c) longer (adds_then last (take i rows) (row ∷ []) a b c so.1 (subst (λ n. Adds n (row ∷ []) b c) from more.1)),
    )

-- all rows are gone through
pub adds_all : (last count : ℤ) (rows : List Row) (i : ℕ) (a b : Database) → i ≤ length rows → length rows ≤ i → (count ≡ last +ℤ pos i) × Adds last (take i rows) a b
    → (count ≡ last +ℤ pos (length rows)) × Adds last rows a b
adds_all last count rows i a b low high so =
    let all : i ≡ length rows = omega (arith, low, high) in
    (so.0 ∙ ap (λ n. last +ℤ pos n) all, subst (λ them. Adds last them a b) (take_all i rows high) so.1)

pub stores_more : (last : ℤ) (rows : List Row) (a b : Database) → Makes a b → (c : Database) → Adds last rows b c → (log : List Row) → last ≡ pos (length log) → Stores a log → Stores c (log ++ rows)
stores_more last rows a b makes c adds log is stores = elim (makes log stores) [
  | inl one ↦ inr (inl (adds First log is one))
  | inr two ↦ inr (inr (adds Second log is two))
]
