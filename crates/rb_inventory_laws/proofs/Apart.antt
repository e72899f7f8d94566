-- The keys of what is read differ, as an inventory asks.
use Rattle.std.proofs.Common.{◌≡◌, ◌≢◌, ℕ, Bool, true, false, not, cond, bytes_eq, List, [], ◌∷◌, ◌++◌, map, Some, None, refl, sym, ap, ◌∙◌}
use Rattle.std.specs.List.{list_all, AllByRecursion as Each}
use Rattle.std.proofs.lemmas.Slice.Eq.{bytes_eq-Decides}
use Rattle.std.proofs.lemmas.Bool.{and_parts, and_from, or_from, not_from_false}
use Rattle.rb_causes.specs.Texts.{differ, is_empty}
use Rattle.rb_causes.specs.Texts.{has_text}
use Rattle.rb_yaml.specs.Tree.{YamlTree, Entries, scalar, seq, mapping, no_entry, entry}
use Rattle.rb_yaml_laws.specs.Keys.{Differ}
use Rattle.rb_yaml_laws.specs.Nodes.{keys_of, HasApartKeys, EntriesHaveApartKeys}
use Rattle.rb_yaml_laws.proofs.ApartFacts.{keys_differ}
use Rattle.rb_values.specs.Values.{entry_list, entries_in}
use Rattle.rb_inventory.specs.Listings.{ListedNode, entry_listing, listings_by, listings_of, attributes_in, attributes_of}
use Rattle.rb_inventory.specs.Laws.{has_apart_keys, have_apart_keys}
use Rattle.rb_inventory.proofs.Keys.{attributes_differ_law}
use Rattle.rb_inventory_laws.specs.Laws.{ReadAttributesDiffer}

unlike : (t : Bool) (a b : List ℕ) → bytes_eq b a ≡ t → a ≢ b → bytes_eq b a ≡ false
unlike true a b h n = absurd (n (sym ((bytes_eq-Decides b a).0 h)))
unlike false a b h n = h

is_new : (key : List ℕ) (keys : List (List ℕ)) → Each (λ other. key ≢ other) keys → has_text keys key ≡ false
is_new key [] h = refl
is_new key (other ∷ keys) h = or_from (bytes_eq other key) (has_text keys key) (unlike (bytes_eq other key) key other refl h.0) (is_new key keys h.1)

differ_apart : (keys : List (List ℕ)) → Differ keys → differ keys ≡ true
differ_apart [] h = refl
differ_apart (key ∷ keys) h = and_from (not (has_text keys key)) (differ keys) (not_from_false (has_text keys key) (is_new key keys h.0)) (differ_apart keys h.1)

same_keys : (entries : Entries) → map (λ e. e.0) (entry_list entries) ≡ keys_of entries
same_keys no_entry = refl
same_keys (entry key value entries) = ap (λ keys. key ∷ keys) (same_keys entries)

-- an entry of a document lists a node with apart keys
abbrev is_apart : ListedNode → Bool
is_apart listing = has_apart_keys (attributes_of listing.1)

text_apart : (t : Bool) → has_apart_keys (cond t (Some []) None) ≡ true
text_apart true = refl
text_apart false = refl

value_apart : (value : YamlTree) → HasApartKeys value → has_apart_keys (attributes_in value) ≡ true
unfolding HasApartKeys
value_apart (scalar line text) h = text_apart (is_empty text)
value_apart (seq line items) h = refl
value_apart (mapping line entries) h = ap differ (same_keys entries) ∙ differ_apart (keys_of entries) h.0

entries_apart : (entries : Entries) → EntriesHaveApartKeys entries → list_all is_apart (map entry_listing (entry_list entries)) ≡ true
unfolding HasApartKeys
entries_apart no_entry h = refl
entries_apart (entry key value entries) h =
    and_from (has_apart_keys (attributes_in value)) (list_all is_apart (map entry_listing (entry_list entries))) (value_apart value h.0) (entries_apart entries h.1)

doc_apart : (doc : YamlTree) → HasApartKeys doc → list_all is_apart (listings_by (entries_in doc)) ≡ true
unfolding HasApartKeys
doc_apart (scalar line text) h = refl
doc_apart (seq line items) h = refl
doc_apart (mapping line entries) h = entries_apart entries h.1

all_both : (xs ys : List ListedNode) → list_all is_apart xs ≡ true → list_all is_apart ys ≡ true → list_all is_apart (xs ++ ys) ≡ true
all_both [] ys h k = k
all_both (x ∷ xs) ys h k =
    and_from (is_apart x) (list_all is_apart (xs ++ ys)) ((and_parts (is_apart x) (list_all is_apart xs) h).0) (all_both xs ys ((and_parts (is_apart x) (list_all is_apart xs) h).1) k)

-- the keys of the maps of the nodes of such documents differ
pub docs_apart : (docs : List YamlTree) → Each HasApartKeys docs → have_apart_keys docs ≡ true
docs_apart [] h = refl
docs_apart (doc ∷ docs) h = all_both (listings_by (entries_in doc)) (listings_of docs) (doc_apart doc h.0) (docs_apart docs h.1)

pub read_attributes_differ : ReadAttributesDiffer
read_attributes_differ bytes docs inventory e i = attributes_differ_law docs inventory (docs_apart docs (keys_differ bytes docs e)) i
