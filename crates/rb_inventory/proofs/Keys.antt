-- The keys of a node's attributes differ, where those of its map do.
use Rattle.std.proofs.Common.{◌≡◌, ℕ, Bool, true, false, not, cond, ◌&&◌, ◌||◌, bytes_eq, List, [], ◌∷◌, map, Option, Some, None, unwrap_or, refl, ap, ◌∙◌}
use Rattle.std.specs.List.{list_all, filter}
use Rattle.std.proofs.lemmas.Bool.{or_parts, and_parts, and_from, not-true}
use Rattle.rb_causes.specs.Texts.{differ, has_text}
use Rattle.rb_values.specs.Values.{Entry}
use Rattle.rb_inventory.specs.Attributes.{is_kept, entry_prop}
use Rattle.rb_inventory.specs.Listings.{ListedNode, listings_of, attributes_of, node_with, node_of}
use Rattle.rb_inventory.specs.Laws.{has_apart_keys, has_apart_attributes, AttributesDiffer}
use Rattle.rb_inventory.proofs.Lawful.{is_read}

abbrev keys : List Entry → List (List ℕ)
keys es = map (λ e. e.0) es

has_step : (b : Bool) (e : Entry) (es : List Entry) (k : List ℕ) → bytes_eq e.0 k ≡ false → has_text (keys es) k ≡ false → has_text (keys (cond b (e ∷ es) es)) k ≡ false
has_step true e es k h g = ap (λ b. b || has_text (keys es) k) h ∙ g
has_step false e es k h g = g

has_kept : (es : List Entry) (k : List ℕ) → has_text (keys es) k ≡ false → has_text (keys (filter (λ e. is_kept e.0) es)) k ≡ false
has_kept [] k h = refl
has_kept (e ∷ es) k h =
    let parts = or_parts (bytes_eq e.0 k) (has_text (keys es) k) h in has_step (is_kept e.0) e (filter (λ x. is_kept x.0) es) k parts.0 (has_kept es k parts.1)

apart_step : (b : Bool) (e : Entry) (es : List Entry) → has_text (keys es) e.0 ≡ false → differ (keys es) ≡ true → differ (keys (cond b (e ∷ es) es)) ≡ true
apart_step true e es h g = ap (λ b. not b && differ (keys es)) h ∙ g
apart_step false e es h g = g

apart_kept : (es : List Entry) → differ (keys es) ≡ true → differ (keys (filter (λ e. is_kept e.0) es)) ≡ true
apart_kept [] h = refl
apart_kept (e ∷ es) h =
    let parts = and_parts (not (has_text (keys es) e.0)) (differ (keys es)) h in
    apart_step (is_kept e.0) e (filter (λ x. is_kept x.0) es) (has_kept es e.0 (not-true (has_text (keys es) e.0) parts.0)) (apart_kept es parts.1)

prop_keys : (es : List Entry) → map (λ p. p.key) (map entry_prop es) ≡ keys es
prop_keys [] = refl
prop_keys (e ∷ es) = ap (λ ks. e.0 ∷ ks) (prop_keys es)

apart_with : (name : List ℕ) (es : Option (List Entry)) → has_apart_keys es ≡ true → has_apart_attributes (node_with name (unwrap_or es [])) ≡ true
apart_with name None h = refl
apart_with name (Some es) h = ap differ (prop_keys (filter (λ e. is_kept e.0) es)) ∙ apart_kept es h

all_apart : (ls : List ListedNode) → list_all (λ l. has_apart_keys (attributes_of l.1)) ls ≡ true → list_all has_apart_attributes (map node_of ls) ≡ true
all_apart [] h = refl
all_apart (l ∷ ls) h =
    let parts = and_parts (has_apart_keys (attributes_of l.1)) (list_all (λ x. has_apart_keys (attributes_of x.1)) ls) h in
    and_from (has_apart_attributes (node_of l)) (list_all has_apart_attributes (map node_of ls)) (apart_with l.0 (attributes_of l.1) parts.0) (all_apart ls parts.1)

pub attributes_differ_law : AttributesDiffer
attributes_differ_law docs inventory apart h =
    let read = is_read docs inventory h in ap (list_all has_apart_attributes) read.nodes ∙ all_apart (listings_of docs) apart
