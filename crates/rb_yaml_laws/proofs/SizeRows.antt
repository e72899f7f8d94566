-- How much rows weigh, and that those of a text weigh no more than its bytes and one.
use Rattle.std.proofs.Common.{◌≡◌, ◌≤◌, ℕ, suc, ◌+◌, Bool, true, false, cond, List, [], ◌∷◌, ◌++◌, length, drop, refl, length-drop, nat_eq, arith}
use Rattle.std.specs.List.{slice_split, onto_first}
use Rattle.rb_causes.specs.Texts.{is_line_feed}
use Rattle.rb_yaml.specs.Rows.{Row, row_of, spaces, without_return, numbered, rows_of}
use Rattle.rb_yaml.specs.Documents.{without_mark}

-- the bytes of the rows' texts, and one more for each row
abbrev pub weight : List Row → ℕ
weight [] = 0
weight (row ∷ rows) = suc (length row.text) + weight rows

pub weight_append : (xs ys : List Row) → weight (xs ++ ys) ≡ weight xs + weight ys
weight_append [] ys = omega arith
weight_append (x ∷ xs) ys = omega (arith, weight_append xs ys)

-- the bytes of lines, and one more for each line
abbrev lines_weight : List (List ℕ) → ℕ
lines_weight [] = 0
lines_weight (line ∷ lines) = suc (length line) + lines_weight lines

return_by : (t : Bool) (b : ℕ) → length (cond t [] (b ∷ [])) ≤ 1
return_by true b = omega arith
return_by false b = omega arith

without_return_le : (line : List ℕ) → length (without_return line) ≤ length line
without_return_le [] = omega arith
without_return_le (b ∷ []) = return_by (nat_eq b 13) b
without_return_le (b ∷ c ∷ bs) = omega (arith, without_return_le (c ∷ bs))

row_le : (number : ℕ) (line : List ℕ) → length (row_of number line).text ≤ length line
row_le number line = omega (arith, length-drop (spaces line) line)

numbered_le : (number : ℕ) (lines : List (List ℕ)) → weight (numbered number lines) ≤ lines_weight lines
numbered_le number [] = omega arith
numbered_le number (line ∷ []) = omega (arith, row_le number line)
numbered_le number (line ∷ next ∷ lines) =
    omega (arith, row_le number (without_return line), without_return_le line, numbered_le (number + 1) (next ∷ lines))

-- a byte more before the first line of some
onto_weight : (b : ℕ) (lines : List (List ℕ)) (n : ℕ) → lines_weight lines ≡ suc n → lines_weight (onto_first b lines) ≡ suc (suc n)
onto_weight b [] n h = absurd (omega (arith, h))
onto_weight b (line ∷ lines) n h = omega (arith, h)

split_by : (t : Bool) (b : ℕ) (lines : List (List ℕ)) (n : ℕ) → lines_weight lines ≡ suc n → lines_weight (cond t ([] ∷ lines) (onto_first b lines)) ≡ suc (suc n)
split_by true b lines n h = omega (arith, h)
split_by false b lines n h = onto_weight b lines n h

split_weight : (bytes : List ℕ) → lines_weight (slice_split is_line_feed bytes) ≡ suc (length bytes)
split_weight [] = refl
split_weight (b ∷ bs) = split_by (is_line_feed b) b (slice_split is_line_feed bs) (length bs) (split_weight bs)

mark_by : (t : Bool) (bytes : List ℕ) → length (cond t (drop 3 bytes) bytes) ≤ length bytes
mark_by true bytes = omega (arith, length-drop 3 bytes)
mark_by false bytes = omega arith

without_mark_le : (bytes : List ℕ) → length (without_mark bytes) ≤ length bytes
without_mark_le bytes = mark_by _ bytes

-- the rows of a text weigh no more than its bytes and one
pub rows_weight : (bytes : List ℕ) → weight (rows_of (without_mark bytes)) ≤ suc (length bytes)
rows_weight bytes =
    let lines = slice_split is_line_feed (without_mark bytes) in
    omega (arith, numbered_le 1 lines, split_weight (without_mark bytes), without_mark_le bytes)
