-- Each node of an inventory is sound.
use Rattle.std.specs.Option.{option_or, option_and_then}
use Rattle.std.proofs.Common.{◌≡◌, ℕ, Bool, true, false, not, cond, ◌&&◌, ◌||◌, nat_eq, List, [], ◌∷◌, ◌++◌, map, Option, Some, None, is_none, unwrap_or, refl, ap, ◌∙◌}
use Rattle.std.specs.List.{list_all, filter}
use Rattle.std.proofs.lemmas.Bool.{and_parts, and_from, not-true}
use Rattle.std.proofs.Math.Bool.{and-false}
use Rattle.rb_causes.specs.Texts.{differ, trimmed, pieces, is_tags}
use Rattle.rb_causes.specs.Words.{words_of}
use Rattle.rb_causes.specs.Texts.{has_text}
use Rattle.rb_yaml.specs.Tree.{YamlTree}
use Rattle.rb_node.specs.Nodes.{is_own_name}
use Rattle.rb_inventory.specs.declared.fault.NodeKind.{NodeKind}
use Rattle.rb_inventory.specs.declared.fault.NodeKind.TheVariants.{NotMap, BadValue, BadExec}
use Rattle.rb_values.specs.Values.{Entry, is_text, scalar_or_empty, text_in, items_in}
use Rattle.rb_inventory.specs.Tags.{filled, tags_by, written_tags, tags_under, tags_value, tags_of}
use Rattle.rb_node.specs.Tags.{once}
use Rattle.rb_inventory.specs.Attributes.{is_exec, is_kept, entry_prop, attrs_of, plain_value_flaw, attribute_flaw, first_flaw}
use Rattle.rb_inventory.specs.Listings.{ListedNode, listings_of, attributes_of, flaw_of, node_with, node_of}
use Rattle.rb_inventory.specs.Inventories.{first_listed_fault}
use Rattle.rb_inventory.specs.Laws.{is_filled_tag, has_sound_tags, is_sound_prop, has_sound_parts, NodesAreSound}
use Rattle.rb_node.proofs.KeptOnce.{differs, has_filtered}
use Rattle.rb_inventory.proofs.Lawful.{same_text, steps, is_read}

-- ---- tags

apart_step : (b : Bool) (x y : List ℕ) (ys : List (List ℕ)) → has_text ys y ≡ false → differ (filter (differs x) ys) ≡ true →
    differ (cond b (y ∷ filter (differs x) ys) (filter (differs x) ys)) ≡ true
apart_step true x y ys unseen h =
    ap (λ b. not b && differ (filter (differs x) ys)) (has_filtered x y ys ∙ ap (λ b. differs x y && b) unseen ∙ and-false (differs x y)) ∙ h
apart_step false x y ys unseen h = h

apart_filtered : (x : List ℕ) (ys : List (List ℕ)) → differ ys ≡ true → differ (filter (differs x) ys) ≡ true
apart_filtered x [] h = refl
apart_filtered x (y ∷ ys) h =
    let parts = and_parts (not (has_text ys y)) (differ ys) h in
    apart_step (differs x y) x y ys (not-true (has_text ys y) parts.0) (apart_filtered x ys parts.1)

once_apart : (ts : List (List ℕ)) → differ (once ts) ≡ true
once_apart [] = refl
once_apart (t ∷ ts) =
    ap (λ b. not b && differ (filter (differs t) (once ts))) (has_filtered t t (once ts) ∙ ap (λ b. not b && has_text (once ts) t) (same_text t))
    ∙ apart_filtered t (once ts) (once_apart ts)

all_step : (p : List ℕ → Bool) (b : Bool) (x : List ℕ) (xs : List (List ℕ)) → p x ≡ true → list_all p xs ≡ true → list_all p (cond b (x ∷ xs) xs) ≡ true
all_step p true x xs h g = and_from (p x) (list_all p xs) h g
all_step p false x xs h g = g

all_filtered : (p q : List ℕ → Bool) (xs : List (List ℕ)) → list_all p xs ≡ true → list_all p (filter q xs) ≡ true
all_filtered p q [] h = refl
all_filtered p q (x ∷ xs) h = let parts = and_parts (p x) (list_all p xs) h in all_step p (q x) x (filter q xs) parts.0 (all_filtered p q xs parts.1)

passing_step : (p : List ℕ → Bool) (b : Bool) (x : List ℕ) (xs : List (List ℕ)) → p x ≡ b → list_all p xs ≡ true → list_all p (cond b (x ∷ xs) xs) ≡ true
passing_step p true x xs h g = and_from (p x) (list_all p xs) h g
passing_step p false x xs h g = g

passing : (p : List ℕ → Bool) (xs : List (List ℕ)) → list_all p (filter p xs) ≡ true
passing p [] = refl
passing p (x ∷ xs) = passing_step p (p x) x (filter p xs) refl (passing p xs)

once_filled : (ts : List (List ℕ)) → list_all is_filled_tag ts ≡ true → list_all is_filled_tag (once ts) ≡ true
once_filled [] h = refl
once_filled (t ∷ ts) h =
    let parts = and_parts (is_filled_tag t) (list_all is_filled_tag ts) h in
    and_from (is_filled_tag t) (list_all is_filled_tag (filter (differs t) (once ts))) parts.0 (all_filtered is_filled_tag (differs t) (once ts) (once_filled ts parts.1))

listed_by : (b : Bool) (items : List YamlTree) → list_all is_filled_tag (unwrap_or (cond b (Some (filled (map scalar_or_empty items))) None) []) ≡ true
listed_by true items = passing is_filled_tag (map trimmed (map scalar_or_empty items))
listed_by false items = refl

written_by : (text : Option (List ℕ)) (items : Option (List YamlTree)) → list_all is_filled_tag (unwrap_or (tags_by text items) []) ≡ true
written_by (Some text) items = passing is_filled_tag (map trimmed (pieces (λ b. nat_eq b 44) text))
written_by None (Some items) = listed_by (list_all is_text items) items
written_by None None = refl

under_filled : (value : Option YamlTree) → list_all is_filled_tag (unwrap_or (option_and_then written_tags value) []) ≡ true
under_filled None = refl
under_filled (Some value) = written_by (text_in value) (items_in value)

tags_sound : (es : List Entry) → (differ (tags_of es) && list_all is_filled_tag (tags_of es)) ≡ true
tags_sound es =
    let written = unwrap_or (tags_under es) [] in
    and_from (differ (tags_of es)) (list_all is_filled_tag (tags_of es)) (once_apart written) (once_filled written (under_filled (tags_value es)))

-- ---- attributes

first_none : (o r : Option NodeKind) → option_or o r ≡ None → (o ≡ None) × (r ≡ None)
first_none None r h = (refl, h)
first_none (Some kind) r h = let never : Some kind ≡ None = h in cc

closed_by : (b : Bool) → cond b (Some BadExec) None ≡ None → not b ≡ true
closed_by true h = let never : Some BadExec ≡ None = h in cc
closed_by false h = refl

closed : (key : List ℕ) (text : Option (List ℕ)) → plain_value_flaw key text ≡ None → not (is_exec key && is_none (words_of (unwrap_or text []))) ≡ true
closed key None h = let never : Some BadValue ≡ None = h in cc
closed key (Some text) h = closed_by (is_exec key && is_none (words_of text)) h

untagged : (t n : Bool) (tags other : Option NodeKind) → not (t || n) ≡ true → cond t tags other ≡ None → other ≡ None
untagged true n tags other kept h = let never : false ≡ true = kept in cc
untagged false n tags other kept h = h

prop_step : (b : Bool) (e : Entry) (es : List Entry) → is_kept e.0 ≡ b → attribute_flaw e ≡ None → list_all is_sound_prop (map entry_prop es) ≡ true →
    list_all is_sound_prop (map entry_prop (cond b (e ∷ es) es)) ≡ true
prop_step true e es kept h g =
    let text = untagged (is_tags e.0) (is_own_name e.0) _ (plain_value_flaw e.0 (text_in e.1)) kept h in
    and_from (is_sound_prop (entry_prop e)) (list_all is_sound_prop (map entry_prop es)) (and_from (is_kept e.0) _ kept (closed e.0 (text_in e.1) text)) g
prop_step false e es kept h g = g

props_sound : (es : List Entry) → first_flaw es ≡ None → list_all is_sound_prop (attrs_of es) ≡ true
props_sound [] h = refl
props_sound (e ∷ es) h =
    let parts = first_none (attribute_flaw e) (first_flaw es) h in
    prop_step (is_kept e.0) e (filter (λ x. is_kept x.0) es) refl parts.0 (props_sound es parts.1)

-- ---- nodes

sound_with : (name : List ℕ) (es : Option (List Entry)) → flaw_of es ≡ None → has_sound_parts (node_with name (unwrap_or es [])) ≡ true
sound_with name None h = let never : Some NotMap ≡ None = h in cc
sound_with name (Some es) h = and_from (has_sound_tags (node_with name es)) (list_all is_sound_prop (attrs_of es)) (tags_sound es) (props_sound es h)

nodes_sound : (ls : List ListedNode) (names : List (List ℕ)) → first_listed_fault names ls ≡ None → list_all has_sound_parts (map node_of ls) ≡ true
nodes_sound [] names h = refl
nodes_sound (l ∷ ls) names h =
    let parts = steps names l ls h in
    and_from (has_sound_parts (node_of l)) (list_all has_sound_parts (map node_of ls)) (sound_with l.0 (attributes_of l.1) parts.0.value) (nodes_sound ls (names ++ l.0 ∷ []) parts.1)

pub nodes_are_sound_law : NodesAreSound
nodes_are_sound_law docs inventory h =
    let read = is_read docs inventory h in ap (list_all has_sound_parts) read.nodes ∙ nodes_sound (listings_of docs) [] read.fault
