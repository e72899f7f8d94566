-- The rows of a value hold it.
use Rattle.std.proofs.Common.{◌≡◌, ◌≢◌, ℕ, suc, ◌+◌, ◌-◌, true, false, not, nat_eq, bytes_eq, codes, List, [], ◌∷◌, ◌++◌, length, inl, refl, sym, ap, subst, ◌∙◌, arith, append_assoc, append-nil}
use Rattle.std.proofs.lemmas.Bool.{and_parts, or_parts, not-true}
use Rattle.std.proofs.lemmas.Slice.Eq.{bytes_eq-Decides}
use Rattle.std.specs.List.{AllByRecursion as Each}
use Rattle.rb_causes.specs.Texts.{is_blank, has_text, differ}
use Rattle.rb_yaml.specs.Rows.{Row, past_blanks, is_content, is_tabbed}
use Rattle.rb_yaml.specs.Signs.{begins_item, ends_sign, is_nothing}
use Rattle.rb_yaml.specs.Line.{behind_item, tab_behind}
use Rattle.rb_yaml.specs.Tree.{scalar, seq, mapping, no_tree, no_entry}
use Rattle.rb_yaml_laws.specs.Bare.{Bare, IsWithin, IsBeneath}
use Rattle.rb_yaml_laws.specs.Plain.{begins_other}
use Rattle.rb_yaml_laws.specs.InFlow.{InFlow}
use Rattle.rb_yaml_laws.specs.Keys.{Differ}
use Rattle.rb_yaml_laws.specs.Says.{Says, Alone}
use Rattle.rb_yaml_laws.specs.Nodes.{StandsAt, StandsAlone, keys_of, Node, Collection, Block, Items, Item, MapEntries, Value}
use Rattle.rb_yaml_laws.proofs.RowFacts.{each_append, each_weak}
use Rattle.rb_canon.specs.Values.{CanonKey, key_text, CanonTree, one_text, items_in, fields_in, Canons, no_canon, canon, Fields, no_field, field}
use Rattle.rb_canon.specs.Layout.{escapes, in_quotes, Line, line, item_lines, field_lines}
use Rattle.rb_canon_laws.specs.Writable.{IsWritableKey, keys_of_fields, IsGood, AreGood, HaveGood}
use Rattle.rb_canon_laws.specs.Trees.{height, height_behind, tree_at, trees_at, entries_at, tree_behind}
use Rattle.rb_canon.proofs.Heads.{behind_of, lead_of, below, head_of, rest_of, split_field, split_item}
use Rattle.rb_canon_laws.proofs.LineRows.{height_is, height_behind_is, row, rows_at, rows_append, deep_items, deep_fields, deep_rest, deep_below, within}
use Rattle.rb_canon_laws.proofs.KeyLines.{quoted_text, shown_key, Leads, key_leads, lead_unlike}

-- ---- rows

bare_within : (i : ℕ) (rows : List Row) → Bare rows → Each (IsWithin i) rows
bare_within i rows h = each_weak (λ (r : Row). is_content r ≡ false) (IsWithin i) (λ r k. inl k) rows h

beneath : (i : ℕ) (rows : List Row) → Each (IsWithin i) rows → Each (IsBeneath i) rows
beneath i rows h = each_weak (IsWithin i) (IsBeneath i) (λ r k. inl k) rows h

lead_content : (n i : ℕ) (text : List ℕ) → Leads text → StandsAt i (row n i text) × (begins_item text ≡ false)
lead_content n i text h =
    let dark : StandsAt i (row n i (h.first ∷ h.more)) × (begins_item (h.first ∷ h.more) ≡ false) = (
      (
        rw (lead_unlike h.first 32 h.leads refl, lead_unlike h.first 9 h.leads refl, lead_unlike h.first 35 h.leads refl) refl,
        lead_unlike h.first 9 h.leads refl,
        refl,
      ),
      rw (lead_unlike h.first 45 h.leads refl) refl,
    ) in
    subst (λ (t : List ℕ). StandsAt i (row n i t) × (begins_item t ≡ false)) (sym h.is) dark

-- a text with a first byte that is no blank and no hash
pub record Dark (text : List ℕ) : Type 0 where
  pub first : ℕ
  pub more : List ℕ
  pub is : text ≡ first ∷ more
  pub blank : is_blank first ≡ false
  pub hash : nat_eq first 35 ≡ false

head_dark : (value : CanonTree) → IsGood value → Dark (head_of value)
head_dark (one_text text) g = record { first = 34; more = escapes text ++ 34 ∷ []; is = refl; blank = refl; hash = refl }
head_dark (items_in no_canon) g = record { first = 91; more = 93 ∷ []; is = refl; blank = refl; hash = refl }
head_dark (items_in (canon value values)) g = record { first = 45; more = 32 ∷ head_of value; is = refl; blank = refl; hash = refl }
head_dark (fields_in no_field) g = record { first = 123; more = 125 ∷ []; is = refl; blank = refl; hash = refl }
head_dark (fields_in (field key value fields)) g =
    let l = key_leads key g.1.0 (behind_of value) in
    record { first = l.first; more = l.more; is = l.is; blank = rw (lead_unlike l.first 32 l.leads refl, lead_unlike l.first 9 l.leads refl) refl; hash = lead_unlike l.first 35 l.leads refl }

longer : (k : List ℕ) → suc (suc (length k)) - length k ≡ 2
longer k = omega arith

behind_dark : (n i : ℕ) (text : List ℕ) → Dark text → behind_item (row n i (45 ∷ 32 ∷ text)) ≡ row n (i + 2) text
behind_dark n i text h =
    subst (λ (t : List ℕ). behind_item (row n i (45 ∷ 32 ∷ t)) ≡ row n (i + 2) t) (sym h.is)
    (rw h.blank (ap (λ (k : ℕ). row n (i + k) (h.first ∷ h.more)) (longer (h.first ∷ h.more))))

dark_something : (text : List ℕ) → Dark text → is_nothing text ≡ false
dark_something text h = subst (λ (t : List ℕ). is_nothing t ≡ false) (sym h.is) h.hash

no_tab : (n i : ℕ) (text : List ℕ) → Dark text → tab_behind (row n i (45 ∷ 32 ∷ text)) ≡ false
no_tab n i text h =
    subst (λ (t : List ℕ). tab_behind (row n i (45 ∷ 32 ∷ t)) ≡ false) (sym h.is)
    (tabs h.first h.more h.blank)
  where
    tabs : (b : ℕ) (bs : List ℕ) → is_blank b ≡ false → tab_behind (row n i (45 ∷ 32 ∷ b ∷ bs)) ≡ false
    tabs b bs k = let parts = or_parts (nat_eq b 32) (nat_eq b 9) k in rw (parts.0, parts.1) refl

-- ---- keys

not_had : (keys : List (List ℕ)) (key : List ℕ) → has_text keys key ≡ false → Each (λ other. key ≢ other) keys
not_had [] key h = tt
not_had (old ∷ keys) key h =
    let parts = or_parts (bytes_eq old key) (has_text keys key) h in
    (λ e. let yes = (bytes_eq-Decides old key).1 (sym e) in let never : true ≡ false = sym yes ∙ parts.0 in cc, not_had keys key parts.1)

keys_differ : (keys : List (List ℕ)) → differ keys ≡ true → Differ keys
keys_differ [] h = tt
keys_differ (key ∷ keys) h =
    let parts = and_parts (not (has_text keys key)) (differ keys) h in
    (not_had keys key (not-true (has_text keys key) parts.0), keys_differ keys parts.1)

keys_at : (n : ℕ) (fields : Fields) → keys_of (entries_at n fields) ≡ keys_of_fields fields
keys_at n no_field = refl
keys_at n (field key value fields) = ap (λ (ks : List (List ℕ)). key_text key ∷ ks) (keys_at (n + height_behind value) fields)

-- ---- values

-- a value stands on rows as a collection or as what stands alone, with rows without content behind
data Stands (n i : ℕ) (value : CanonTree) (tail : List Row) : Type 0 where
  many : Collection (row n i (head_of value)) (rows_at (n + 1) (rest_of i value) ++ tail) (tree_at n value) →
      Stands n i value tail
  lone : StandsAlone (head_of value) →
      ((floor : ℕ) → Alone floor n (head_of value) (rows_at (n + 1) (rest_of i value) ++ tail) (tree_at n value)) →
      Stands n i value tail

abbrev ItemsHold : Canons → Type 0
ItemsHold no_canon = Unit {0}
ItemsHold (canon value values) =
    (n i : ℕ) (tail : List Row) → Bare tail →
    Items i (row n i (45 ∷ 32 ∷ head_of value) ∷ (rows_at (n + 1) (rest_of (i + 2) value ++ item_lines i values) ++ tail)) (trees_at n (canon value values))

abbrev FieldsHold : Fields → Type 0
FieldsHold no_field = Unit {0}
FieldsHold (field key value fields) =
    (n i : ℕ) (tail : List Row) → Bare tail →
    MapEntries i (row n i (lead_of key value) ∷ (rows_at (n + 1) (below i value ++ field_lines i fields) ++ tail)) (entries_at n (field key value fields))

abbrev ValueStands : CanonTree → Type 0
ValueStands value = (n i : ℕ) (tail : List Row) → Bare tail → Stands n i value tail

one_item : (n i : ℕ) (value : CanonTree) (tail : List Row) → IsGood value → Bare tail → ValueStands value →
    Item i (row n i (45 ∷ 32 ∷ head_of value)) (rows_at (n + 1) (rest_of (i + 2) value) ++ tail) (tree_at n value)
one_item n i value tail g b h = by_stands (h n (i + 2) tail b)
  where
    dark : Dark (head_of value)
    dark = head_dark value g

    at : behind_item (row n i (45 ∷ 32 ∷ head_of value)) ≡ row n (i + 2) (head_of value)
    at = behind_dark n i (head_of value) dark

    some : is_nothing (behind_item (row n i (45 ∷ 32 ∷ head_of value))).text ≡ false
    some = ap (λ (r : Row). is_nothing r.text) at ∙ dark_something (head_of value) dark

    by_stands : Stands n (i + 2) value tail → Item i (row n i (45 ∷ 32 ∷ head_of value)) (rows_at (n + 1) (rest_of (i + 2) value) ++ tail) (tree_at n value)
    by_stands (many c) =
        Item.compact some (no_tab n i (head_of value) dark)
        (subst (λ (r : Row). Collection r (rows_at (n + 1) (rest_of (i + 2) value) ++ tail) (tree_at n value)) (sym at) c)
    by_stands (lone s a) =
        Item.alone_behind some
        (subst (λ (r : Row). StandsAlone r.text) (sym at) s)
        (subst (λ (r : Row). Alone (suc i) n r.text (rows_at (n + 1) (rest_of (i + 2) value) ++ tail) (tree_at n value)) (sym at) (a (suc i)))

item_rows_last : (n i : ℕ) (value : CanonTree) (tail : List Row) →
    row n i (45 ∷ 32 ∷ head_of value) ∷ (rows_at (n + 1) (rest_of (i + 2) value) ++ tail) ++ []
    ≡ row n i (45 ∷ 32 ∷ head_of value) ∷ (rows_at (n + 1) (rest_of (i + 2) value ++ []) ++ tail)
item_rows_last n i value tail =
    ap (λ (rs : List Row). row n i (45 ∷ 32 ∷ head_of value) ∷ rs)
    (append-nil (rows_at (n + 1) (rest_of (i + 2) value) ++ tail)
    ∙ ap (λ (ls : List Line). rows_at (n + 1) ls ++ tail) (sym (append-nil (rest_of (i + 2) value))))

-- the rows behind a first one, cut where the next value begins
cut : (n m : ℕ) (ks ls : List Line) (next : Line) (more : List Line) (tail : List Row) → ls ≡ next ∷ more → n + 1 + length ks ≡ m →
    rows_at (n + 1) ks ++ (row m next.indent next.text ∷ (rows_at (m + 1) more ++ tail)) ≡ rows_at (n + 1) (ks ++ ls) ++ tail
cut n m ks ls next more tail e at =
    sym (
    ap (λ (rs : List Row). rs ++ tail) (rows_append (n + 1) ks ls)
    ∙ append_assoc (rows_at (n + 1) ks) (rows_at (n + 1 + length ks) ls) tail
    ∙ ap (λ (xs : List Line). rows_at (n + 1) ks ++ (rows_at (n + 1 + length ks) xs ++ tail)) e
    ∙ ap (λ (k : ℕ). rows_at (n + 1) ks ++ (rows_at k (next ∷ more) ++ tail)) at)

items_by : (value : CanonTree) (values : Canons) → IsGood value → ValueStands value → ItemsHold values → ItemsHold (canon value values)
items_by value no_canon g h more =
    λ n i tail b.
    subst (λ (rs : List Row). Items i rs (trees_at n (canon value no_canon))) (item_rows_last n i value tail)
    (Items.item (row n i (45 ∷ 32 ∷ head_of value)) (rows_at (n + 1) (rest_of (i + 2) value) ++ tail) [] (refl, refl, refl) refl
    (each_append (IsWithin i) (rows_at (n + 1) (rest_of (i + 2) value)) tail (within i (n + 1) (rest_of (i + 2) value) (deep_rest (i + 2) value)) (bare_within i tail b))
    (one_item n i value tail g b h) Items.no_item)
items_by value (canon next values) g h more =
    λ n i tail b.
    subst (λ (rs : List Row). Items i (row n i (45 ∷ 32 ∷ head_of value) ∷ rs) (trees_at n (canon value (canon next values))))
    (cut n (n + height value) (rest_of (i + 2) value) (item_lines i (canon next values)) (line i (45 ∷ 32 ∷ head_of next)) (rest_of (i + 2) next ++ item_lines i values) tail
    (split_item i next values) (height_is (i + 2) n value))
    (Items.item (row n i (45 ∷ 32 ∷ head_of value)) (rows_at (n + 1) (rest_of (i + 2) value))
    (row (n + height value) i (45 ∷ 32 ∷ head_of next) ∷ (rows_at (n + height value + 1) (rest_of (i + 2) next ++ item_lines i values) ++ tail))
    (refl, refl, refl) refl
    (within i (n + 1) (rest_of (i + 2) value) (deep_rest (i + 2) value))
    (subst (λ (rs : List Row). Item i (row n i (45 ∷ 32 ∷ head_of value)) rs (tree_at n value)) (append-nil (rows_at (n + 1) (rest_of (i + 2) value))) (one_item n i value [] g tt h))
    (more (n + height value) i tail b))

-- ---- maps

abbrev ValueBehind : CanonTree → Type 0
ValueBehind value = (n i : ℕ) (tail : List Row) → Bare tail → Value i n (past_blanks (behind_of value)) (rows_at (n + 1) (below i value) ++ tail) (tree_behind n value)

field_rows_last : (n i : ℕ) (key : CanonKey) (value : CanonTree) (tail : List Row) →
    row n i (lead_of key value) ∷ (rows_at (n + 1) (below i value) ++ tail) ++ []
    ≡ row n i (lead_of key value) ∷ (rows_at (n + 1) (below i value ++ []) ++ tail)
field_rows_last n i key value tail =
    ap (λ (rs : List Row). row n i (lead_of key value) ∷ rs)
    (append-nil (rows_at (n + 1) (below i value) ++ tail)
    ∙ ap (λ (ls : List Line). rows_at (n + 1) ls ++ tail) (sym (append-nil (below i value))))

behind_ends : (value : CanonTree) → ends_sign (behind_of value) ≡ true
behind_ends (one_text text) = refl
behind_ends (items_in no_canon) = refl
behind_ends (items_in (canon value values)) = refl
behind_ends (fields_in no_field) = refl
behind_ends (fields_in (field key value fields)) = refl

fields_by : (key : CanonKey) (value : CanonTree) (fields : Fields) → IsWritableKey key → ValueBehind value → FieldsHold fields → FieldsHold (field key value fields)
fields_by key value no_field g h more =
    λ n i tail b.
    let lead = lead_content n i (lead_of key value) (key_leads key g (behind_of value)) in
    subst (λ (rs : List Row). MapEntries i rs (entries_at n (field key value no_field))) (field_rows_last n i key value tail)
    (MapEntries.keyed (row n i (lead_of key value)) (rows_at (n + 1) (below i value) ++ tail) [] lead.0 lead.1
    (shown_key key g (behind_of value) (behind_ends value))
    (beneath i (rows_at (n + 1) (below i value) ++ tail)
    (each_append (IsWithin i) (rows_at (n + 1) (below i value)) tail (within i (n + 1) (below i value) (deep_below i value)) (bare_within i tail b)))
    (h n i tail b) MapEntries.no_more)
fields_by key value (field next other fields) g h more =
    λ n i tail b.
    let lead = lead_content n i (lead_of key value) (key_leads key g (behind_of value)) in
    subst (λ (rs : List Row). MapEntries i (row n i (lead_of key value) ∷ rs) (entries_at n (field key value (field next other fields))))
    (cut n (n + height_behind value) (below i value) (field_lines i (field next other fields)) (line i (lead_of next other)) (below i other ++ field_lines i fields) tail
    (split_field i next other fields) (height_behind_is i n value))
    (MapEntries.keyed (row n i (lead_of key value)) (rows_at (n + 1) (below i value))
    (row (n + height_behind value) i (lead_of next other) ∷ (rows_at (n + height_behind value + 1) (below i other ++ field_lines i fields) ++ tail))
    lead.0 lead.1 (shown_key key g (behind_of value) (behind_ends value))
    (beneath i (rows_at (n + 1) (below i value)) (within i (n + 1) (below i value) (deep_below i value)))
    (subst (λ (rs : List Row). Value i n (past_blanks (behind_of value)) rs (tree_behind n value)) (append-nil (rows_at (n + 1) (below i value))) (h n i [] tt))
    (more (n + height_behind value) i tail b))

-- ---- all values

lone_text : (n floor : ℕ) (text : List ℕ) (tail : List Row) → Bare tail → Alone floor n (in_quotes text) tail (scalar n text)
lone_text n floor text tail b = Alone.one (Says.double (quoted_text text []) refl b)

no_items : (n floor : ℕ) (tail : List Row) → Bare tail → Alone floor n (codes "[]") tail (seq n no_tree)
no_items n floor tail b = Alone.flow_sequence (InFlow.closes refl) refl b

no_fields : (n floor : ℕ) (tail : List Row) → Bare tail → Alone floor n (codes "{}") tail (mapping n no_entry)
no_fields n floor tail b = Alone.flow_map (InFlow.closes refl) refl b tt

items_rows : (n i : ℕ) (value : CanonTree) (values : Canons) (tail : List Row) →
    [] ++ row n i (45 ∷ 32 ∷ head_of value) ∷ (rows_at (n + 1) (rest_of (i + 2) value ++ item_lines i values) ++ tail) ≡ rows_at n (item_lines i (canon value values)) ++ tail
items_rows n i value values tail = ap (λ (ls : List Line). rows_at n ls ++ tail) (sym (split_item i value values))

fields_rows : (n i : ℕ) (key : CanonKey) (value : CanonTree) (fields : Fields) (tail : List Row) →
    [] ++ row n i (lead_of key value) ∷ (rows_at (n + 1) (below i value ++ field_lines i fields) ++ tail) ≡ rows_at n (field_lines i (field key value fields)) ++ tail
fields_rows n i key value fields tail = ap (λ (ls : List Line). rows_at n ls ++ tail) (sym (split_field i key value fields))

items_below : (n i : ℕ) (value : CanonTree) (values : Canons) (tail : List Row) → Bare tail → ItemsHold (canon value values) →
    Value i n [] (rows_at (n + 1) (item_lines (i + 2) (canon value values)) ++ tail) (seq (n + 1) (trees_at (n + 1) (canon value values)))
items_below n i value values tail b hold =
    Value.deeper refl
    (each_append (IsWithin i) (rows_at (n + 1) (item_lines (i + 2) (canon value values))) tail
    (within i (n + 1) (item_lines (i + 2) (canon value values)) (deep_items (i + 2) (canon value values))) (bare_within i tail b))
    (subst (λ (rs : List Row). Block (suc i) n rs (seq (n + 1) (trees_at (n + 1) (canon value values)))) (items_rows (n + 1) (i + 2) value values tail)
    (Block.node [] (row (n + 1) (i + 2) (45 ∷ 32 ∷ head_of value)) (rows_at (n + 1 + 1) (rest_of (i + 2 + 2) value ++ item_lines (i + 2) values) ++ tail) tt refl refl
    (Node.collection (Collection.block_sequence (hold (n + 1) (i + 2) tail b)))))

map_holds : (n i : ℕ) (key : CanonKey) (value : CanonTree) (fields : Fields) (tail : List Row) → IsGood (fields_in (field key value fields)) → Bare tail → FieldsHold (field key value fields) →
    Collection (row n i (lead_of key value)) (rows_at (n + 1) (below i value ++ field_lines i fields) ++ tail) (mapping n (entries_at n (field key value fields)))
map_holds n i key value fields tail g b hold =
    Collection.block_map (hold n i tail b)
    (subst Differ (sym (keys_at n (field key value fields))) (keys_differ (keys_of_fields (field key value fields)) g.0))

fields_below : (n i : ℕ) (key : CanonKey) (value : CanonTree) (fields : Fields) (tail : List Row) → IsGood (fields_in (field key value fields)) → Bare tail → FieldsHold (field key value fields) →
    Value i n [] (rows_at (n + 1) (field_lines (i + 2) (field key value fields)) ++ tail) (mapping (n + 1) (entries_at (n + 1) (field key value fields)))
fields_below n i key value fields tail g b hold =
    let lead = lead_content (n + 1) (i + 2) (lead_of key value) (key_leads key g.1.0 (behind_of value)) in
    Value.deeper refl
    (each_append (IsWithin i) (rows_at (n + 1) (field_lines (i + 2) (field key value fields))) tail
    (within i (n + 1) (field_lines (i + 2) (field key value fields)) (deep_fields (i + 2) (field key value fields))) (bare_within i tail b))
    (subst (λ (rs : List Row). Block (suc i) n rs (mapping (n + 1) (entries_at (n + 1) (field key value fields)))) (fields_rows (n + 1) (i + 2) key value fields tail)
    (Block.node [] (row (n + 1) (i + 2) (lead_of key value)) (rows_at (n + 1 + 1) (below (i + 2) value ++ field_lines (i + 2) fields) ++ tail) tt lead.0.0 lead.0.1
    (Node.collection (map_holds (n + 1) (i + 2) key value fields tail g b hold))))

never_plain : (b : ℕ) (bs : List ℕ) → begins_other (b ∷ bs) ≡ true → begins_item (b ∷ bs) ≡ false → StandsAlone (b ∷ bs)
never_plain b bs o h = (h, λ p. let never : true ≡ false = sym o ∙ p in absurd (cc))

mutual
  stands : (value : CanonTree) → IsGood value → ValueStands value
  stands (one_text text) g = λ n i tail b. lone (never_plain 34 (escapes text ++ 34 ∷ []) refl refl) (λ floor. lone_text n floor text tail b)
  stands (items_in no_canon) g = λ n i tail b. lone (never_plain 91 (codes "]") refl refl) (λ floor. no_items n floor tail b)
  stands (items_in (canon value values)) g = λ n i tail b. many (Collection.block_sequence (items_hold (canon value values) g n i tail b))
  stands (fields_in no_field) g = λ n i tail b. lone (never_plain 123 (codes "}") refl refl) (λ floor. no_fields n floor tail b)
  stands (fields_in (field key value fields)) g = λ n i tail b. many (map_holds n i key value fields tail g b (fields_hold (field key value fields) g.1))

  items_hold : (values : Canons) → AreGood values → ItemsHold values
  items_hold no_canon g = tt
  items_hold (canon value values) g = items_by value values g.0 (stands value g.0) (items_hold values g.1)

  fields_hold : (fields : Fields) → HaveGood fields → FieldsHold fields
  fields_hold no_field g = tt
  fields_hold (field key value fields) g = fields_by key value fields g.0 (behind_holds value g.1) (fields_hold fields g.2)

  behind_holds : (value : CanonTree) → IsGood value → ValueBehind value
  behind_holds (one_text text) g = λ n i tail b. Value.behind_key refl (bare_within i tail b) (lone_text n (suc i) text tail b)
  behind_holds (items_in no_canon) g = λ n i tail b. Value.behind_key refl (bare_within i tail b) (no_items n (suc i) tail b)
  behind_holds (items_in (canon value values)) g = λ n i tail b. items_below n i value values tail b (items_hold (canon value values) g)
  behind_holds (fields_in no_field) g = λ n i tail b. Value.behind_key refl (bare_within i tail b) (no_fields n (suc i) tail b)
  behind_holds (fields_in (field key value fields)) g = λ n i tail b. fields_below n i key value fields tail g b (fields_hold (field key value fields) g.1)

-- a value and rows without content behind it
pub node_holds : (floor n i : ℕ) (value : CanonTree) (tail : List Row) → IsGood value → Bare tail →
    Node floor (row n i (head_of value)) (rows_at (n + 1) (rest_of i value) ++ tail) (tree_at n value)
node_holds floor n i value tail g b = by_stands (stands value g n i tail b)
  where
    by_stands : Stands n i value tail → Node floor (row n i (head_of value)) (rows_at (n + 1) (rest_of i value) ++ tail) (tree_at n value)
    by_stands (many c) = Node.collection c
    by_stands (lone s a) = Node.alone s (a floor)

pub head_content : (n i : ℕ) (value : CanonTree) → IsGood value → (is_content (row n i (head_of value)) ≡ true) × (is_tabbed (row n i (head_of value)) ≡ false)
head_content n i value g =
    let d = head_dark value g in
    subst (λ (t : List ℕ). (is_content (row n i t) ≡ true) × (is_tabbed (row n i t) ≡ false)) (sym d.is)
    (dark_row d.first d.more d.blank d.hash)
  where
    dark_row : (b : ℕ) (bs : List ℕ) → is_blank b ≡ false → nat_eq b 35 ≡ false → (is_content (row n i (b ∷ bs)) ≡ true) × (is_tabbed (row n i (b ∷ bs)) ≡ false)
    dark_row b bs h k = (rw (h, k) refl, (or_parts (nat_eq b 32) (nat_eq b 9) h).1)
