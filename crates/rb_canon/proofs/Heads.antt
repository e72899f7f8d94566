-- The first line of a value, and its other lines.
use Rattle.std.proofs.Common.{◌≡◌, ℕ, ◌+◌, List, [], ◌∷◌, ◌++◌, codes, refl, sym, ap, append-nil}
use Rattle.rb_canon.specs.Values.{CanonKey, CanonTree, one_text, items_in, fields_in, Canons, no_canon, canon, Fields, no_field, field}
use Rattle.rb_canon.specs.Layout.{in_quotes, key_shown, Line, line, marked, lines_of, item_lines, field_lines, lines_behind}

-- ---- the first line

-- what stands behind the colon of a key
abbrev pub behind_of : CanonTree → List ℕ
behind_of (one_text text) = 32 ∷ in_quotes text
behind_of (items_in no_canon) = codes " []"
behind_of (items_in (canon value values)) = []
behind_of (fields_in no_field) = codes " {}"
behind_of (fields_in (field key value fields)) = []

abbrev pub lead_of : CanonKey → CanonTree → List ℕ
lead_of key value = (key_shown key ++ 58 ∷ []) ++ behind_of value

-- the lines below a key
abbrev pub below : ℕ → CanonTree → List Line
below i (one_text text) = []
below i (items_in no_canon) = []
below i (items_in (canon value values)) = item_lines (i + 2) (canon value values)
below i (fields_in no_field) = []
below i (fields_in (field key value fields)) = field_lines (i + 2) (field key value fields)

abbrev pub head_of_fields : Fields → List ℕ
head_of_fields no_field = codes "{}"
head_of_fields (field key value fields) = lead_of key value

abbrev pub rest_of_fields : ℕ → Fields → List Line
rest_of_fields i no_field = []
rest_of_fields i (field key value fields) = below i value ++ field_lines i fields

-- the text of a value's first line, and its other lines
abbrev mutual
  pub head_of : CanonTree → List ℕ
  head_of (one_text text) = in_quotes text
  head_of (items_in values) = head_of_items values
  head_of (fields_in fields) = head_of_fields fields

  pub head_of_items : Canons → List ℕ
  head_of_items no_canon = codes "[]"
  head_of_items (canon value values) = 45 ∷ 32 ∷ head_of value

abbrev mutual
  pub rest_of : ℕ → CanonTree → List Line
  rest_of i (one_text text) = []
  rest_of i (items_in values) = rest_of_items i values
  rest_of i (fields_in fields) = rest_of_fields i fields

  pub rest_of_items : ℕ → Canons → List Line
  rest_of_items i no_canon = []
  rest_of_items i (canon value values) = rest_of (i + 2) value ++ item_lines i values

pub split_behind : (i : ℕ) (key : List ℕ) (value : CanonTree) → lines_behind i key value ≡ line i (key ++ behind_of value) ∷ below i value
split_behind i key (one_text text) = refl
split_behind i key (items_in no_canon) = refl
split_behind i key (items_in (canon value values)) = ap (λ (t : List ℕ). line i t ∷ item_lines (i + 2) (canon value values)) (sym (append-nil key))
split_behind i key (fields_in no_field) = refl
split_behind i key (fields_in (field first value fields)) = ap (λ (t : List ℕ). line i t ∷ field_lines (i + 2) (field first value fields)) (sym (append-nil key))

pub split_field : (i : ℕ) (key : CanonKey) (value : CanonTree) (fields : Fields) →
    field_lines i (field key value fields) ≡ line i (lead_of key value) ∷ (below i value ++ field_lines i fields)
split_field i key value fields = ap (λ (ls : List Line). ls ++ field_lines i fields) (split_behind i (key_shown key ++ 58 ∷ []) value)

mutual
  pub split : (i : ℕ) (value : CanonTree) → lines_of i value ≡ line i (head_of value) ∷ rest_of i value
  split i (one_text text) = refl
  split i (items_in values) = split_items i values
  split i (fields_in no_field) = refl
  split i (fields_in (field key value fields)) = split_field i key value fields

  split_items : (i : ℕ) (values : Canons) → lines_of i (items_in values) ≡ line i (head_of_items values) ∷ rest_of_items i values
  split_items i no_canon = refl
  split_items i (canon value values) = ap (λ (ls : List Line). marked i ls ++ item_lines i values) (split (i + 2) value)

pub split_item : (i : ℕ) (value : CanonTree) (values : Canons) →
    item_lines i (canon value values) ≡ line i (45 ∷ 32 ∷ head_of value) ∷ (rest_of (i + 2) value ++ item_lines i values)
split_item i value values = ap (λ (ls : List Line). marked i ls ++ item_lines i values) (split (i + 2) value)
