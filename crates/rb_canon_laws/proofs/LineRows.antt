-- How many lines a value takes, its lines as rows, and how deep they stand.
use Rattle.std.proofs.Common.{◌≡◌, ◌≤◌, ℕ, suc, ◌+◌, List, [], ◌∷◌, ◌++◌, length, refl, ap, subst, ◌∙◌, arith, inr, length-append}
use Rattle.std.specs.List.{AllByRecursion as Each}
use Rattle.rb_yaml.specs.Rows.{Row}
use Rattle.rb_yaml_laws.specs.Bare.{IsWithin}
use Rattle.rb_yaml_laws.proofs.RowFacts.{each_append}
use Rattle.rb_canon.specs.Values.{CanonTree, one_text, items_in, fields_in, Canons, no_canon, canon, Fields, no_field, field}
use Rattle.rb_canon.specs.Layout.{key_shown, Line, marked, lines_of, item_lines, field_lines, lines_behind}
use Rattle.rb_canon.proofs.Heads.{below, rest_of, split, split_behind}
use Rattle.rb_canon_laws.specs.Trees.{height, height_behind}

-- ---- how many lines

marked_length : (i : ℕ) (ls : List Line) → length (marked i ls) ≡ length ls
marked_length i [] = refl
marked_length i (l ∷ ls) = refl

mutual
  same_height : (i j : ℕ) (value : CanonTree) → length (lines_of i value) ≡ length (lines_of j value)
  same_height i j (one_text text) = refl
  same_height i j (items_in no_canon) = refl
  same_height i j (items_in (canon value values)) = same_items i j (canon value values)
  same_height i j (fields_in no_field) = refl
  same_height i j (fields_in (field key value fields)) = same_fields i j (field key value fields)

  same_items : (i j : ℕ) (values : Canons) → length (item_lines i values) ≡ length (item_lines j values)
  same_items i j no_canon = refl
  same_items i j (canon value values) =
      let one = same_height (i + 2) (j + 2) value in
      let more = same_items i j values in
      let mi = marked_length i (lines_of (i + 2) value) in
      let mj = marked_length j (lines_of (j + 2) value) in
      let ai = length-append (marked i (lines_of (i + 2) value)) (item_lines i values) in
      let aj = length-append (marked j (lines_of (j + 2) value)) (item_lines j values) in
      omega arith

  same_fields : (i j : ℕ) (fields : Fields) → length (field_lines i fields) ≡ length (field_lines j fields)
  same_fields i j no_field = refl
  same_fields i j (field key value fields) =
      let k = key_shown key ++ 58 ∷ [] in
      let one = same_behind i j k k value in
      let more = same_fields i j fields in
      let ai = length-append (lines_behind i k value) (field_lines i fields) in
      let aj = length-append (lines_behind j k value) (field_lines j fields) in
      omega arith

  same_behind : (i j : ℕ) (k l : List ℕ) (value : CanonTree) → length (lines_behind i k value) ≡ length (lines_behind j l value)
  same_behind i j k l (one_text text) = refl
  same_behind i j k l (items_in no_canon) = refl
  same_behind i j k l (items_in (canon value values)) = ap suc (same_items (i + 2) (j + 2) (canon value values))
  same_behind i j k l (fields_in no_field) = refl
  same_behind i j k l (fields_in (field key value fields)) = ap suc (same_fields (i + 2) (j + 2) (field key value fields))

pub height_is : (i n : ℕ) (value : CanonTree) → n + 1 + length (rest_of i value) ≡ n + height value
height_is i n value =
    let same = same_height i 0 value in
    let parts : length (lines_of i value) ≡ suc (length (rest_of i value)) = ap length (split i value) in
    omega arith

pub height_behind_is : (i n : ℕ) (value : CanonTree) → n + 1 + length (below i value) ≡ n + height_behind value
height_behind_is i n value =
    let same = same_behind i 0 [] [] value in
    let parts : length (lines_behind i [] value) ≡ suc (length (below i value)) = ap length (split_behind i [] value) in
    omega arith

-- ---- lines as rows

abbrev pub row : ℕ → ℕ → List ℕ → Row
row number indent text = record { number = number; indent = indent; text = text }

abbrev pub rows_at : ℕ → List Line → List Row
rows_at n [] = []
rows_at n (l ∷ ls) = row n l.indent l.text ∷ rows_at (n + 1) ls

pub rows_append : (n : ℕ) (ks ls : List Line) → rows_at n (ks ++ ls) ≡ rows_at n ks ++ rows_at (n + length ks) ls
rows_append n [] ls = ap (λ (m : ℕ). rows_at m ls) (omega arith)
rows_append n (k ∷ ks) ls =
    let more = rows_append (n + 1) ks ls in
    let at : n + 1 + length ks ≡ n + suc (length ks) = omega arith in
    ap (λ (rs : List Row). row n k.indent k.text ∷ rs) (more ∙ ap (λ (m : ℕ). rows_at (n + 1) ks ++ rows_at m ls) at)

-- ---- how deep they stand

abbrev pub IsDeep : ℕ → Line → Type 0
IsDeep i l = i ≤ l.indent

deeper : (i : ℕ) (ls : List Line) → Each (IsDeep (i + 2)) ls → Each (IsDeep i) ls
deeper i [] h = tt
deeper i (l ∷ ls) h = (omega (arith, h.0), deeper i ls h.1)

deep_marked : (i : ℕ) (ls : List Line) → Each (IsDeep (i + 2)) ls → Each (IsDeep i) (marked i ls)
deep_marked i [] h = tt
deep_marked i (l ∷ ls) h = (omega arith, deeper i ls h.1)

mutual
  deep_lines : (i : ℕ) (value : CanonTree) → Each (IsDeep i) (lines_of i value)
  deep_lines i (one_text text) = (omega arith, tt)
  deep_lines i (items_in no_canon) = (omega arith, tt)
  deep_lines i (items_in (canon value values)) = deep_items i (canon value values)
  deep_lines i (fields_in no_field) = (omega arith, tt)
  deep_lines i (fields_in (field key value fields)) = deep_fields i (field key value fields)

  pub deep_items : (i : ℕ) (values : Canons) → Each (IsDeep i) (item_lines i values)
  deep_items i no_canon = tt
  deep_items i (canon value values) =
      each_append (IsDeep i) (marked i (lines_of (i + 2) value)) (item_lines i values)
      (deep_marked i (lines_of (i + 2) value) (deep_lines (i + 2) value)) (deep_items i values)

  pub deep_fields : (i : ℕ) (fields : Fields) → Each (IsDeep i) (field_lines i fields)
  deep_fields i no_field = tt
  deep_fields i (field key value fields) =
      let k = key_shown key ++ 58 ∷ [] in
      each_append (IsDeep i) (lines_behind i k value) (field_lines i fields)
      (deep_behind i k value) (deep_fields i fields)

  deep_behind : (i : ℕ) (k : List ℕ) (value : CanonTree) → Each (IsDeep i) (lines_behind i k value)
  deep_behind i k (one_text text) = (omega arith, tt)
  deep_behind i k (items_in no_canon) = (omega arith, tt)
  deep_behind i k (items_in (canon value values)) = (omega arith, deeper i (item_lines (i + 2) (canon value values)) (deep_items (i + 2) (canon value values)))
  deep_behind i k (fields_in no_field) = (omega arith, tt)
  deep_behind i k (fields_in (field key value fields)) = (omega arith, deeper i (field_lines (i + 2) (field key value fields)) (deep_fields (i + 2) (field key value fields)))

pub deep_rest : (i : ℕ) (value : CanonTree) → Each (IsDeep i) (rest_of i value)
deep_rest i value = (subst (Each (IsDeep i)) (split i value) (deep_lines i value)).1

pub deep_below : (i : ℕ) (value : CanonTree) → Each (IsDeep (i + 2)) (below i value)
deep_below i (one_text text) = tt
deep_below i (items_in no_canon) = tt
deep_below i (items_in (canon value values)) = deep_items (i + 2) (canon value values)
deep_below i (fields_in no_field) = tt
deep_below i (fields_in (field key value fields)) = deep_fields (i + 2) (field key value fields)

-- rows two columns further in belong to what begins at a column
pub within : (i n : ℕ) (ls : List Line) → Each (IsDeep (i + 2)) ls → Each (IsWithin i) (rows_at n ls)
within i n [] h = tt
within i n (l ∷ ls) h = (inr (omega (arith, h.0)), within i (n + 1) ls h.1)
