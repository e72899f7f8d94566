-- The turns of the loops: what is still to be put begins with the pieces of the next turn.
use Rattle.std.proofs.Common.{◌≡◌, ◌<◌, ◌≤◌, ℕ, ◌+◌, codes, Bool, false, List, [], ◌∷◌, ◌++◌, replicate, length, drop, get_or, map, Ok, Err, refl, sym, ap, subst, ◌∙◌}
use Rattle.std.proofs.lemmas.List.{drop_more, at_drop_all}
use Rattle.rb_canon.specs.declared.canon_err.CanonErr.{CanonErr}
use Rattle.rb_canon.specs.declared.value.Canon.{Canon}
use Rattle.rb_canon.specs.declared.value.Field.{Field}
use Rattle.rb_canon.specs.declared.value.Canon.TheFolds.{fold-roll-Canon, fold_out-Field}
use Rattle.rb_canon.specs.declared.value.Canon.TheOpen.{Canon-F}
use Rattle.rb_canon.specs.declared.value.Canon.TheVariants as variants
use Rattle.rb_canon.specs.Values.{CanonKey, CanonTree, one_text, canons_of, fields_of, list_of, map_of}
use Rattle.rb_canon.specs.Views.{key_view, canon_step, field_step, canon_tree, canon_trees, field_view}
use Rattle.rb_canon.specs.Puts.{Puts, value_piece, items_piece, item_piece, fields_piece, key_piece, behind_piece, mark_before}
use Rattle.rb_canon.proofs.SoFar.{SoFar, so_far_more, so_far_stop, so_far_end}
use Rattle.rb_canon.proofs.Pieces.{items_first, items_none, fields_first, fields_none, docs_first, docs_from, value_no_items, value_items, value_no_fields, value_fields, behind_no_items, behind_items, behind_no_fields, behind_fields}

-- an item, and those behind it
pub items_here : (lead i k : ℕ) (xs : List Canon) (x : Canon) → k < length xs → x ≡ get_or xs k x →
    items_piece lead i (canons_of (canon_trees (drop k xs)))
    ≡ replicate lead 32 ++ (item_piece i (canon_tree x) ++ items_piece i i (canons_of (canon_trees (drop (k + 1) xs))))
items_here lead i k xs x h e =
    let here : drop k xs ≡ x ∷ drop (k + 1) xs = drop_more xs k x h ∙ ap (λ (y : Canon). y ∷ drop (k + 1) xs) (sym e) in
    ap (λ (ys : List Canon). items_piece lead i (canons_of (canon_trees ys))) here
    ∙ items_first lead i (canon_tree x) (canons_of (canon_trees (drop (k + 1) xs)))

-- a field as its key and its value
pub field_is : (f : Field) → field_view f ≡ (key_view f.key, canon_tree f.value)
field_is f = fold_out-Field CanonTree (CanonKey × CanonTree) canon_step field_step f

-- a field, and those behind it
pub fields_here : (lead i k : ℕ) (xs : List Field) (x : Field) → k < length xs → x ≡ get_or xs k x →
    fields_piece lead i (fields_of (map field_view (drop k xs)))
    ≡ replicate lead 32 ++ (key_piece (key_view x.key) ++ (behind_piece i (canon_tree x.value) ++ fields_piece i i (fields_of (map field_view (drop (k + 1) xs)))))
fields_here lead i k xs x h e =
    let more = fields_of (map field_view (drop (k + 1) xs)) in
    let here : drop k xs ≡ x ∷ drop (k + 1) xs = drop_more xs k x h ∙ ap (λ (y : Field). y ∷ drop (k + 1) xs) (sym e) in
    ap (λ (ys : List Field). fields_piece lead i (fields_of (map field_view ys))) here
    ∙ fields_first lead i (field_view x).0 (field_view x).1 more
    ∙ ap (λ (f : CanonKey × CanonTree). replicate lead 32 ++ (key_piece f.0 ++ (behind_piece i f.1 ++ fields_piece i i more))) (field_is x)

-- a document, and those behind it
pub docs_here : (first : Bool) (k : ℕ) (xs : List Canon) (x : Canon) → k < length xs → x ≡ get_or xs k x →
    docs_from first (canon_trees (drop k xs))
    ≡ mark_before first ++ (value_piece 0 (canon_tree x) ++ docs_from false (canon_trees (drop (k + 1) xs)))
docs_here first k xs x h e =
    let here : drop k xs ≡ x ∷ drop (k + 1) xs = drop_more xs k x h ∙ ap (λ (y : Canon). y ∷ drop (k + 1) xs) (sym e) in
    ap (λ (ys : List Canon). docs_from first (canon_trees ys)) here
    ∙ docs_first first (canon_tree x) (canon_trees (drop (k + 1) xs))

-- ---- one turn of each loop

pub items_turn : (whole before now a b : List ℕ) (lead i k : ℕ) (xs : List Canon) (x : Canon) (u v : Unit {0}) → k < length xs → x ≡ get_or xs k x →
    SoFar whole (items_piece lead i (canons_of (canon_trees (drop k xs)))) before now → Puts (replicate lead 32) now a (Ok u) → Puts (item_piece i (canon_tree x)) a b (Ok v) →
    SoFar whole (items_piece i i (canons_of (canon_trees (drop (k + 1) xs)))) before b
items_turn whole before now a b lead i k xs x u v h e s p q =
    let rest = items_piece i i (canons_of (canon_trees (drop (k + 1) xs))) in
    let item = item_piece i (canon_tree x) in
    so_far_more whole item rest before a b v
    (so_far_more whole (replicate lead 32) (item ++ rest) before now a u (subst (λ (r : List ℕ). SoFar whole r before now) (items_here lead i k xs x h e) s) p) q

pub items_stop : (whole before now a : List ℕ) (lead i k : ℕ) (xs : List Canon) (x : Canon) (error : CanonErr) → k < length xs → x ≡ get_or xs k x →
    SoFar whole (items_piece lead i (canons_of (canon_trees (drop k xs)))) before now → Puts (replicate lead 32) now a (Err error) → Puts whole before a (Err error)
items_stop whole before now a lead i k xs x error h e s p =
    let rest = items_piece i i (canons_of (canon_trees (drop (k + 1) xs))) in
    so_far_stop whole (replicate lead 32) (item_piece i (canon_tree x) ++ rest) before now a error
    (subst (λ (r : List ℕ). SoFar whole r before now) (items_here lead i k xs x h e) s) p

pub items_stop_later : (whole before now a b : List ℕ) (lead i k : ℕ) (xs : List Canon) (x : Canon) (u : Unit {0}) (error : CanonErr) → k < length xs → x ≡ get_or xs k x →
    SoFar whole (items_piece lead i (canons_of (canon_trees (drop k xs)))) before now → Puts (replicate lead 32) now a (Ok u) → Puts (item_piece i (canon_tree x)) a b (Err error) → Puts whole before b (Err error)
items_stop_later whole before now a b lead i k xs x u error h e s p q =
    let rest = items_piece i i (canons_of (canon_trees (drop (k + 1) xs))) in
    let item = item_piece i (canon_tree x) in
    so_far_stop whole item rest before a b error
    (so_far_more whole (replicate lead 32) (item ++ rest) before now a u (subst (λ (r : List ℕ). SoFar whole r before now) (items_here lead i k xs x h e) s) p) q

pub items_end : (whole before now : List ℕ) (lead i k : ℕ) (xs : List Canon) (u : Unit {0}) → length xs ≤ k →
    SoFar whole (items_piece lead i (canons_of (canon_trees (drop k xs)))) before now → Puts whole before now (Ok u)
items_end whole before now lead i k xs u h s =
    so_far_end whole before now u
    (subst (λ (r : List ℕ). SoFar whole r before now) (at_drop_all (λ (ys : List Canon). items_piece lead i (canons_of (canon_trees ys))) xs k h ∙ items_none lead i) s)

-- what is still to be put of a field: its blanks, its key, what stands behind, the others
abbrev fields_rest : ℕ → ℕ → List Field → List ℕ
fields_rest i k xs = fields_piece i i (fields_of (map field_view (drop (k + 1) xs)))

fields_open : (whole before now : List ℕ) (lead i k : ℕ) (xs : List Field) (x : Field) → k < length xs → x ≡ get_or xs k x →
    SoFar whole (fields_piece lead i (fields_of (map field_view (drop k xs)))) before now →
    SoFar whole (replicate lead 32 ++ (key_piece (key_view x.key) ++ (behind_piece i (canon_tree x.value) ++ fields_rest i k xs))) before now
fields_open whole before now lead i k xs x h e s = subst (λ (r : List ℕ). SoFar whole r before now) (fields_here lead i k xs x h e) s

pub fields_turn : (whole before now a b d : List ℕ) (lead i k : ℕ) (xs : List Field) (x : Field) (u v w : Unit {0}) → k < length xs → x ≡ get_or xs k x →
    SoFar whole (fields_piece lead i (fields_of (map field_view (drop k xs)))) before now →
    Puts (replicate lead 32) now a (Ok u) → Puts (key_piece (key_view x.key)) a b (Ok v) → Puts (behind_piece i (canon_tree x.value)) b d (Ok w) →
    SoFar whole (fields_piece i i (fields_of (map field_view (drop (k + 1) xs)))) before d
fields_turn whole before now a b d lead i k xs x u v w h e s p q r =
    let key = key_piece (key_view x.key) in
    let behind = behind_piece i (canon_tree x.value) in
    so_far_more whole behind (fields_rest i k xs) before b d w
    (so_far_more whole key (behind ++ fields_rest i k xs) before a b v
    (so_far_more whole (replicate lead 32) (key ++ (behind ++ fields_rest i k xs)) before now a u (fields_open whole before now lead i k xs x h e s) p) q) r

pub fields_stop : (whole before now a : List ℕ) (lead i k : ℕ) (xs : List Field) (x : Field) (error : CanonErr) → k < length xs → x ≡ get_or xs k x →
    SoFar whole (fields_piece lead i (fields_of (map field_view (drop k xs)))) before now → Puts (replicate lead 32) now a (Err error) → Puts whole before a (Err error)
fields_stop whole before now a lead i k xs x error h e s p =
    so_far_stop whole (replicate lead 32) (key_piece (key_view x.key) ++ (behind_piece i (canon_tree x.value) ++ fields_rest i k xs)) before now a error
    (fields_open whole before now lead i k xs x h e s) p

pub fields_stop_key : (whole before now a b : List ℕ) (lead i k : ℕ) (xs : List Field) (x : Field) (u : Unit {0}) (error : CanonErr) → k < length xs → x ≡ get_or xs k x →
    SoFar whole (fields_piece lead i (fields_of (map field_view (drop k xs)))) before now →
    Puts (replicate lead 32) now a (Ok u) → Puts (key_piece (key_view x.key)) a b (Err error) → Puts whole before b (Err error)
fields_stop_key whole before now a b lead i k xs x u error h e s p q =
    let key = key_piece (key_view x.key) in
    let behind = behind_piece i (canon_tree x.value) in
    so_far_stop whole key (behind ++ fields_rest i k xs) before a b error
    (so_far_more whole (replicate lead 32) (key ++ (behind ++ fields_rest i k xs)) before now a u (fields_open whole before now lead i k xs x h e s) p) q

pub fields_stop_behind : (whole before now a b d : List ℕ) (lead i k : ℕ) (xs : List Field) (x : Field) (u v : Unit {0}) (error : CanonErr) → k < length xs → x ≡ get_or xs k x →
    SoFar whole (fields_piece lead i (fields_of (map field_view (drop k xs)))) before now →
    Puts (replicate lead 32) now a (Ok u) → Puts (key_piece (key_view x.key)) a b (Ok v) → Puts (behind_piece i (canon_tree x.value)) b d (Err error) → Puts whole before d (Err error)
fields_stop_behind whole before now a b d lead i k xs x u v error h e s p q r =
    let key = key_piece (key_view x.key) in
    let behind = behind_piece i (canon_tree x.value) in
    so_far_stop whole behind (fields_rest i k xs) before b d error
    (so_far_more whole key (behind ++ fields_rest i k xs) before a b v
    (so_far_more whole (replicate lead 32) (key ++ (behind ++ fields_rest i k xs)) before now a u (fields_open whole before now lead i k xs x h e s) p) q) r

pub fields_end : (whole before now : List ℕ) (lead i k : ℕ) (xs : List Field) (u : Unit {0}) → length xs ≤ k →
    SoFar whole (fields_piece lead i (fields_of (map field_view (drop k xs)))) before now → Puts whole before now (Ok u)
fields_end whole before now lead i k xs u h s =
    so_far_end whole before now u
    (subst (λ (r : List ℕ). SoFar whole r before now) (at_drop_all (λ (ys : List Field). fields_piece lead i (fields_of (map field_view ys))) xs k h ∙ fields_none lead i) s)

pub docs_turn : (whole before now a b : List ℕ) (first : Bool) (k : ℕ) (xs : List Canon) (x : Canon) (u v : Unit {0}) → k < length xs → x ≡ get_or xs k x →
    SoFar whole (docs_from first (canon_trees (drop k xs))) before now → Puts (mark_before first) now a (Ok u) → Puts (value_piece 0 (canon_tree x)) a b (Ok v) →
    SoFar whole (docs_from false (canon_trees (drop (k + 1) xs))) before b
docs_turn whole before now a b first k xs x u v h e s p q =
    let rest = docs_from false (canon_trees (drop (k + 1) xs)) in
    let doc = value_piece 0 (canon_tree x) in
    so_far_more whole doc rest before a b v
    (so_far_more whole (mark_before first) (doc ++ rest) before now a u (subst (λ (r : List ℕ). SoFar whole r before now) (docs_here first k xs x h e) s) p) q

pub docs_stop : (whole before now a : List ℕ) (first : Bool) (k : ℕ) (xs : List Canon) (x : Canon) (error : CanonErr) → k < length xs → x ≡ get_or xs k x →
    SoFar whole (docs_from first (canon_trees (drop k xs))) before now → Puts (mark_before first) now a (Err error) → Puts whole before a (Err error)
docs_stop whole before now a first k xs x error h e s p =
    so_far_stop whole (mark_before first) (value_piece 0 (canon_tree x) ++ docs_from false (canon_trees (drop (k + 1) xs))) before now a error
    (subst (λ (r : List ℕ). SoFar whole r before now) (docs_here first k xs x h e) s) p

pub docs_stop_value : (whole before now a b : List ℕ) (first : Bool) (k : ℕ) (xs : List Canon) (x : Canon) (u : Unit {0}) (error : CanonErr) → k < length xs → x ≡ get_or xs k x →
    SoFar whole (docs_from first (canon_trees (drop k xs))) before now → Puts (mark_before first) now a (Ok u) → Puts (value_piece 0 (canon_tree x)) a b (Err error) → Puts whole before b (Err error)
docs_stop_value whole before now a b first k xs x u error h e s p q =
    let rest = docs_from false (canon_trees (drop (k + 1) xs)) in
    let doc = value_piece 0 (canon_tree x) in
    so_far_stop whole doc rest before a b error
    (so_far_more whole (mark_before first) (doc ++ rest) before now a u (subst (λ (r : List ℕ). SoFar whole r before now) (docs_here first k xs x h e) s) p) q

pub docs_end : (whole before now : List ℕ) (first : Bool) (k : ℕ) (xs : List Canon) (u : Unit {0}) → length xs ≤ k →
    SoFar whole (docs_from first (canon_trees (drop k xs))) before now → Puts whole before now (Ok u)
docs_end whole before now first k xs u h s =
    so_far_end whole before now u
    (subst (λ (r : List ℕ). SoFar whole r before now) (at_drop_all (λ (ys : List Canon). docs_from first (canon_trees ys)) xs k h) s)

-- ---- lists and maps, empty and not

pub list_none : (i : ℕ) (xs : List Canon) → length xs ≡ 0 → value_piece i (list_of (canon_trees xs)) ≡ codes "[]\n"
list_none i [] h = value_no_items i
list_none i (x ∷ xs) h = absurd (cc)

pub list_some : (i : ℕ) (xs : List Canon) → (length xs ≡ 0 → ⊥) → value_piece i (list_of (canon_trees xs)) ≡ items_piece 0 i (canons_of (canon_trees xs))
list_some i [] h = absurd (h refl)
list_some i (x ∷ xs) h = value_items i (canon_tree x) (canons_of (canon_trees xs))

pub map_none : (i : ℕ) (xs : List Field) → length xs ≡ 0 → value_piece i (map_of (map field_view xs)) ≡ codes "{}\n"
map_none i [] h = value_no_fields i
map_none i (x ∷ xs) h = absurd (cc)

pub map_some : (i : ℕ) (xs : List Field) → (length xs ≡ 0 → ⊥) → value_piece i (map_of (map field_view xs)) ≡ fields_piece 0 i (fields_of (map field_view xs))
map_some i [] h = absurd (h refl)
map_some i (x ∷ xs) h = value_fields i (field_view x).0 (field_view x).1 (fields_of (map field_view xs))

pub list_behind_none : (i : ℕ) (xs : List Canon) → length xs ≡ 0 → behind_piece i (list_of (canon_trees xs)) ≡ codes " []\n"
list_behind_none i [] h = behind_no_items i
list_behind_none i (x ∷ xs) h = absurd (cc)

pub list_behind_some : (i : ℕ) (xs : List Canon) → (length xs ≡ 0 → ⊥) → behind_piece i (list_of (canon_trees xs)) ≡ (10 ∷ []) ++ items_piece (i + 2) (i + 2) (canons_of (canon_trees xs))
list_behind_some i [] h = absurd (h refl)
list_behind_some i (x ∷ xs) h = behind_items i (canon_tree x) (canons_of (canon_trees xs))

pub map_behind_none : (i : ℕ) (xs : List Field) → length xs ≡ 0 → behind_piece i (map_of (map field_view xs)) ≡ codes " {}\n"
map_behind_none i [] h = behind_no_fields i
map_behind_none i (x ∷ xs) h = absurd (cc)

pub map_behind_some : (i : ℕ) (xs : List Field) → (length xs ≡ 0 → ⊥) → behind_piece i (map_of (map field_view xs)) ≡ (10 ∷ []) ++ fields_piece (i + 2) (i + 2) (fields_of (map field_view xs))
map_behind_some i [] h = absurd (h refl)
map_behind_some i (x ∷ xs) h = behind_fields i (field_view x).0 (field_view x).1 (fields_of (map field_view xs))

-- ---- a text that the code opens

pub tree_text : (text : List ℕ) → canon_tree (variants.Text text) ≡ one_text text
tree_text text = ap canon_tree (sym (variants.rolls-Text text)) ∙ fold-roll-Canon CanonTree (CanonKey × CanonTree) canon_step field_step (Canon-F.Text text)
