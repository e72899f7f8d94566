-- What is read of a value does not look at its lines.
use Rattle.std.proofs.Common.{◌≡◌, ◌∙◌, ℕ, Bool, true, false, cond, ◌&&◌, List, [], ◌∷◌, ◌++◌, map, Option, Some, None, option_map, is_some, unwrap_or, find, bytes_eq, refl, ap}
use Rattle.std.specs.List.{flat_map, list_all}
use Rattle.rb_yaml.specs.Tree.{YamlTree, scalar, seq, mapping, Trees, no_tree, tree, Entries, no_entry, entry}
use Rattle.rb_values.specs.Values.{Entry, tree_list, entry_list, text_in, items_in, entries_in, is_text, scalar_or_empty, sequence_items, map_entries, value_at, has_key, text_by, text_at, items_by, items_at, entries_by, entries_at}
use Rattle.rb_canon_laws.specs.Trees.{lineless, items_lineless, entries_lineless}

-- a key with its value without lines
abbrev pub entry_lineless : Entry → Entry
entry_lineless e = (e.0, lineless e.1)

-- ---- lists

pub flat_same : {A B C : Type 0} (f : B → List C) (g : A → B) (h : A → List C)
    → ((x : A) → f (g x) ≡ h x) → (xs : List A) → flat_map f (map g xs) ≡ flat_map h xs
flat_same f g h same [] = refl
flat_same f g h same (x ∷ xs) =
    ap (λ ys. ys ++ flat_map f (map g xs)) (same x)
    ∙ ap (λ ys. h x ++ ys) (flat_same f g h same xs)

pub map_same : {A B C : Type 0} (f : B → C) (g : A → B) (h : A → C)
    → ((x : A) → f (g x) ≡ h x) → (xs : List A) → map f (map g xs) ≡ map h xs
map_same f g h same [] = refl
map_same f g h same (x ∷ xs) =
    ap (λ y. y ∷ map f (map g xs)) (same x) ∙ ap (λ ys. h x ∷ ys) (map_same f g h same xs)

pub all_same : {A B : Type 0} (f : B → Bool) (g : A → B) (h : A → Bool)
    → ((x : A) → f (g x) ≡ h x) → (xs : List A) → list_all f (map g xs) ≡ list_all h xs
all_same f g h same [] = refl
all_same f g h same (x ∷ xs) =
    ap (λ b. b && list_all f (map g xs)) (same x) ∙ ap (λ b. h x && b) (all_same f g h same xs)

-- ---- values

pub tree_list_lineless : (ts : Trees) → tree_list (items_lineless ts) ≡ map lineless (tree_list ts)
tree_list_lineless no_tree = refl
tree_list_lineless (tree t ts) = ap (λ ys. lineless t ∷ ys) (tree_list_lineless ts)

pub entry_list_lineless : (es : Entries) → entry_list (entries_lineless es)
    ≡ map entry_lineless (entry_list es)
entry_list_lineless no_entry = refl
entry_list_lineless (entry key value es) =
    ap (λ ys. (key, lineless value) ∷ ys) (entry_list_lineless es)

pub text_in_lineless : (t : YamlTree) → text_in (lineless t) ≡ text_in t
text_in_lineless (scalar line text) = refl
text_in_lineless (seq line items) = refl
text_in_lineless (mapping line entries) = refl

pub items_in_lineless : (t : YamlTree) → items_in (lineless t)
    ≡ option_map (map lineless) (items_in t)
items_in_lineless (scalar line text) = refl
items_in_lineless (seq line items) = ap Some (tree_list_lineless items)
items_in_lineless (mapping line entries) = refl

pub entries_in_lineless : (t : YamlTree) → entries_in (lineless t)
    ≡ option_map (map entry_lineless) (entries_in t)
entries_in_lineless (scalar line text) = refl
entries_in_lineless (seq line items) = refl
entries_in_lineless (mapping line entries) = ap Some (entry_list_lineless entries)

pub is_text_lineless : (t : YamlTree) → is_text (lineless t) ≡ is_text t
is_text_lineless t = ap is_some (text_in_lineless t)

pub scalar_lineless : (t : YamlTree) → scalar_or_empty (lineless t) ≡ scalar_or_empty t
scalar_lineless t = ap (λ o. unwrap_or o []) (text_in_lineless t)

pub sequence_items_lineless : (t : YamlTree) → sequence_items (lineless t)
    ≡ map lineless (sequence_items t)
sequence_items_lineless (scalar line text) = refl
sequence_items_lineless (seq line items) = tree_list_lineless items
sequence_items_lineless (mapping line entries) = refl

pub map_entries_lineless : (t : YamlTree) → map_entries (lineless t)
    ≡ map entry_lineless (map_entries t)
map_entries_lineless (scalar line text) = refl
map_entries_lineless (seq line items) = refl
map_entries_lineless (mapping line entries) = entry_list_lineless entries

-- ---- what stands under a key

found_by : (b : Bool) (e : Entry) (found found' : Option Entry)
    → option_map (λ e. e.1) found ≡ option_map lineless (option_map (λ e. e.1) found')
    → option_map (λ e. e.1) (cond b (Some (entry_lineless e)) found)
    ≡ option_map lineless (option_map (λ e. e.1) (cond b (Some e) found'))
found_by true e found found' h = refl
found_by false e found found' h = h

pub value_at_lineless : (es : List Entry) (key : List ℕ)
    → value_at (map entry_lineless es) key ≡ option_map lineless (value_at es key)
value_at_lineless [] key = refl
value_at_lineless (e ∷ es) key =
    found_by (bytes_eq e.0 key) e (find (λ e. bytes_eq e.0 key) (map entry_lineless es))
    (find (λ e. bytes_eq e.0 key) es) (value_at_lineless es key)

is_some-map : {A B : Type 0} (f : A → B) (o : Option A) → is_some (option_map f o) ≡ is_some o
is_some-map f None = refl
is_some-map f (Some x) = refl

pub has_key_lineless : (es : List Entry) (key : List ℕ)
    → has_key (map entry_lineless es) key ≡ has_key es key
has_key_lineless es key =
    ap is_some (value_at_lineless es key) ∙ is_some-map lineless (value_at es key)

text_by_lineless : (o : Option YamlTree) → text_by (option_map lineless o) ≡ text_by o
text_by_lineless None = refl
text_by_lineless (Some t) = text_in_lineless t

pub text_at_lineless : (es : List Entry) (key : List ℕ)
    → text_at (map entry_lineless es) key ≡ text_at es key
text_at_lineless es key =
    ap text_by (value_at_lineless es key) ∙ text_by_lineless (value_at es key)

items_by_lineless : (o : Option YamlTree) → items_by (option_map lineless o)
    ≡ map lineless (items_by o)
items_by_lineless None = refl
items_by_lineless (Some t) = sequence_items_lineless t

pub items_at_lineless : (es : List Entry) (key : List ℕ)
    → items_at (map entry_lineless es) key ≡ map lineless (items_at es key)
items_at_lineless es key =
    ap items_by (value_at_lineless es key) ∙ items_by_lineless (value_at es key)

entries_by_lineless : (o : Option YamlTree)
    → entries_by (option_map lineless o) ≡ map entry_lineless (entries_by o)
entries_by_lineless None = refl
entries_by_lineless (Some t) = map_entries_lineless t

pub entries_at_lineless : (es : List Entry) (key : List ℕ)
    → entries_at (map entry_lineless es) key ≡ map entry_lineless (entries_at es key)
entries_at_lineless es key =
    ap entries_by (value_at_lineless es key) ∙ entries_by_lineless (value_at es key)
