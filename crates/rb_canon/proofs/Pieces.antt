-- The pieces of a text, each before the rest.
use Rattle.std.proofs.Common.{◌≡◌, ℕ, ◌+◌, Bool, true, false, codes, List, [], ◌∷◌, ◌++◌, replicate, refl, sym, ap, ◌∙◌, append_assoc, append-nil}
use Rattle.rb_canon.specs.Values.{CanonKey, CanonTree, one_text, items_in, fields_in, Canons, no_canon, canon, Fields, no_field, field}
use Rattle.rb_canon.specs.Layout.{in_quotes, key_shown, Line, line_bytes, lines_bytes, lines_of, item_lines, field_lines, lines_behind, canon_of, canon_docs_of}
use Rattle.rb_canon.specs.Puts.{led, value_piece, items_piece, item_piece, fields_piece, key_piece, behind_piece, text_piece, docs_piece, mark_before}
use Rattle.rb_canon.proofs.Heads.{behind_of, lead_of, below, head_of, rest_of, split, split_item, split_field, split_behind}

pub bytes_append : (ks ls : List Line) → lines_bytes (ks ++ ls) ≡ lines_bytes ks ++ lines_bytes ls
bytes_append [] ls = refl
bytes_append (k ∷ ks) ls = ap (λ (xs : List ℕ). line_bytes k ++ xs) (bytes_append ks ls) ∙ sym (append_assoc (line_bytes k) (lines_bytes ks) (lines_bytes ls))

-- a line before others
line_first : (lead : ℕ) (text more : List ℕ) → (replicate lead 32 ++ text ++ 10 ∷ []) ++ more ≡ replicate lead 32 ++ text ++ 10 ∷ more
line_first lead text more = append_assoc (replicate lead 32 ++ text) (10 ∷ []) more

items_led : (i : ℕ) (values : Canons) → lines_bytes (item_lines i values) ≡ led i (item_lines i values)
items_led i no_canon = refl
items_led i (canon value values) =
    ap lines_bytes (split_item i value values)
    ∙ line_first i (45 ∷ 32 ∷ head_of value) (lines_bytes (rest_of (i + 2) value ++ item_lines i values))
    ∙ ap (led i) (sym (split_item i value values))

fields_led : (i : ℕ) (fields : Fields) → lines_bytes (field_lines i fields) ≡ led i (field_lines i fields)
fields_led i no_field = refl
fields_led i (field key value fields) =
    ap lines_bytes (split_field i key value fields)
    ∙ line_first i (lead_of key value) (lines_bytes (below i value ++ field_lines i fields))
    ∙ ap (led i) (sym (split_field i key value fields))

-- the blanks of the first item, the item, and the others
led_items : (lead i : ℕ) (value : CanonTree) (values : Canons) →
    led lead (item_lines i (canon value values)) ≡ replicate lead 32 ++ ((45 ∷ 32 ∷ led 0 (lines_of (i + 2) value)) ++ led i (item_lines i values))
led_items lead i value values =
    let more = led i (item_lines i values) in
    let mine = lines_bytes (rest_of (i + 2) value) in
    ap (led lead) (split_item i value values)
    ∙ ap (λ (xs : List ℕ). replicate lead 32 ++ (45 ∷ 32 ∷ head_of value) ++ 10 ∷ xs)
    (bytes_append (rest_of (i + 2) value) (item_lines i values) ∙ ap (λ (xs : List ℕ). mine ++ xs) (items_led i values))
    ∙ append_assoc (replicate lead 32) (45 ∷ 32 ∷ head_of value) (10 ∷ (mine ++ more))
    ∙ ap (λ (xs : List ℕ). replicate lead 32 ++ (45 ∷ 32 ∷ xs)) (sym (append_assoc (head_of value) (10 ∷ mine) more))
    ∙ ap (λ (ls : List Line). replicate lead 32 ++ ((45 ∷ 32 ∷ led 0 ls) ++ more)) (sym (split (i + 2) value))

-- a key and what stands behind its colon
behind_led : (i : ℕ) (key : List ℕ) (value : CanonTree) → led 0 (lines_behind i key value) ≡ key ++ led 0 (lines_behind i [] value)
behind_led i key value =
    ap (led 0) (split_behind i key value)
    ∙ append_assoc key (behind_of value) (10 ∷ lines_bytes (below i value))
    ∙ ap (λ (ls : List Line). key ++ led 0 ls) (sym (split_behind i [] value))

-- the blanks of the first field, its key, what stands behind, and the others
led_fields : (lead i : ℕ) (key : CanonKey) (value : CanonTree) (fields : Fields) →
    led lead (field_lines i (field key value fields)) ≡ replicate lead 32 ++ ((key_shown key ++ 58 ∷ []) ++ (led 0 (lines_behind i [] value) ++ led i (field_lines i fields)))
led_fields lead i key value fields =
    let shown = key_shown key ++ 58 ∷ [] in
    let more = led i (field_lines i fields) in
    let mine = lines_bytes (below i value) in
    ap (led lead) (split_field i key value fields)
    ∙ ap (λ (xs : List ℕ). replicate lead 32 ++ lead_of key value ++ 10 ∷ xs)
    (bytes_append (below i value) (field_lines i fields) ∙ ap (λ (xs : List ℕ). mine ++ xs) (fields_led i fields))
    ∙ append_assoc (replicate lead 32) (lead_of key value) (10 ∷ (mine ++ more))
    ∙ ap (λ (xs : List ℕ). replicate lead 32 ++ xs)
    (sym (append_assoc (lead_of key value) (10 ∷ mine) more)
    ∙ ap (λ (ls : List Line). led 0 ls ++ more) (sym (split_behind i shown value))
    ∙ ap (λ (xs : List ℕ). xs ++ more) (behind_led i shown value)
    ∙ append_assoc shown (led 0 (lines_behind i [] value)) more)

-- ---- documents

-- documents of which the first is the first of all, or stands behind a mark
abbrev pub docs_from : Bool → List CanonTree → List ℕ
docs_from first [] = []
docs_from first (value ∷ values) = mark_before first ++ canon_docs_of (value ∷ values)

docs_all : (values : List CanonTree) → docs_from true values ≡ canon_docs_of values
docs_all [] = refl
docs_all (value ∷ values) = refl

canon_led : (value : CanonTree) → canon_of value ≡ led 0 (lines_of 0 value)
canon_led value = ap lines_bytes (split 0 value) ∙ line_first 0 (head_of value) (lines_bytes (rest_of 0 value)) ∙ ap (led 0) (sym (split 0 value))

docs_more : (value : CanonTree) (values : List CanonTree) → canon_docs_of (value ∷ values) ≡ led 0 (lines_of 0 value) ++ docs_from false values
docs_more value [] = canon_led value ∙ sym (append-nil (led 0 (lines_of 0 value)))
docs_more value (next ∷ values) =
    append_assoc (canon_of value) (codes "---\n") (canon_docs_of (next ∷ values))
    ∙ ap (λ (xs : List ℕ). xs ++ (codes "---\n" ++ canon_docs_of (next ∷ values))) (canon_led value)

led_docs : (first : Bool) (value : CanonTree) (values : List CanonTree) →
    docs_from first (value ∷ values) ≡ mark_before first ++ (led 0 (lines_of 0 value) ++ docs_from false values)
led_docs first value values = ap (λ (xs : List ℕ). mark_before first ++ xs) (docs_more value values)

-- ---- the pieces by their names

pub items_first : (lead i : ℕ) (value : CanonTree) (values : Canons) →
    items_piece lead i (canon value values) ≡ replicate lead 32 ++ (item_piece i value ++ items_piece i i values)
unfolding items_piece item_piece value_piece
items_first lead i value values = led_items lead i value values

pub items_none : (lead i : ℕ) → items_piece lead i no_canon ≡ []
unfolding items_piece
items_none lead i = refl

pub fields_first : (lead i : ℕ) (key : CanonKey) (value : CanonTree) (fields : Fields) →
    fields_piece lead i (field key value fields) ≡ replicate lead 32 ++ (key_piece key ++ (behind_piece i value ++ fields_piece i i fields))
unfolding fields_piece key_piece behind_piece
fields_first lead i key value fields = led_fields lead i key value fields

pub fields_none : (lead i : ℕ) → fields_piece lead i no_field ≡ []
unfolding fields_piece
fields_none lead i = refl

pub item_is : (i : ℕ) (value : CanonTree) → item_piece i value ≡ (45 ∷ 32 ∷ []) ++ value_piece (i + 2) value
unfolding item_piece
item_is i value = refl

pub text_is : (text : List ℕ) → text_piece text ≡ in_quotes text ++ 10 ∷ []
unfolding text_piece
text_is text = refl

pub key_is : (key : CanonKey) → key_piece key ≡ key_shown key ++ 58 ∷ []
unfolding key_piece
key_is key = refl

pub value_text : (i : ℕ) (text : List ℕ) → value_piece i (one_text text) ≡ text_piece text
unfolding value_piece text_piece
value_text i text = refl

pub value_no_items : (i : ℕ) → value_piece i (items_in no_canon) ≡ codes "[]\n"
unfolding value_piece
value_no_items i = refl

pub value_items : (i : ℕ) (value : CanonTree) (values : Canons) → value_piece i (items_in (canon value values)) ≡ items_piece 0 i (canon value values)
unfolding value_piece items_piece
value_items i value values = refl

pub value_no_fields : (i : ℕ) → value_piece i (fields_in no_field) ≡ codes "{}\n"
unfolding value_piece
value_no_fields i = refl

pub value_fields : (i : ℕ) (key : CanonKey) (value : CanonTree) (fields : Fields) → value_piece i (fields_in (field key value fields)) ≡ fields_piece 0 i (field key value fields)
unfolding value_piece fields_piece
value_fields i key value fields = refl

pub behind_text : (i : ℕ) (text : List ℕ) → behind_piece i (one_text text) ≡ 32 ∷ text_piece text
unfolding behind_piece text_piece
behind_text i text = refl

pub behind_no_items : (i : ℕ) → behind_piece i (items_in no_canon) ≡ codes " []\n"
unfolding behind_piece
behind_no_items i = refl

pub behind_items : (i : ℕ) (value : CanonTree) (values : Canons) → behind_piece i (items_in (canon value values)) ≡ (10 ∷ []) ++ items_piece (i + 2) (i + 2) (canon value values)
unfolding behind_piece items_piece
behind_items i value values = ap (λ (xs : List ℕ). 10 ∷ xs) (items_led (i + 2) (canon value values))

pub behind_no_fields : (i : ℕ) → behind_piece i (fields_in no_field) ≡ codes " {}\n"
unfolding behind_piece
behind_no_fields i = refl

pub behind_fields : (i : ℕ) (key : CanonKey) (value : CanonTree) (fields : Fields) → behind_piece i (fields_in (field key value fields)) ≡ (10 ∷ []) ++ fields_piece (i + 2) (i + 2) (field key value fields)
unfolding behind_piece fields_piece
behind_fields i key value fields = ap (λ (xs : List ℕ). 10 ∷ xs) (fields_led (i + 2) (field key value fields))

pub docs_first : (first : Bool) (value : CanonTree) (values : List CanonTree) →
    docs_from first (value ∷ values) ≡ mark_before first ++ (value_piece 0 value ++ docs_from false values)
unfolding value_piece
docs_first first value values = led_docs first value values

pub docs_whole : (values : List CanonTree) → docs_piece values ≡ docs_from true values
unfolding docs_piece
docs_whole values = sym (docs_all values)

pub docs_are : (values : List CanonTree) → docs_piece values ≡ canon_docs_of values
unfolding docs_piece
docs_are values = refl
