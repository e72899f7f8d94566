-- Documents have no more policies, types and rules than values.
use Rattle.std.proofs.Common.{◌≡◌, ◌≤◌, ◌<◌, ℕ, ◌+◌, ◌^◌, Bool, true, false, cond, bytes_eq, List, [], ◌∷◌, length, map, Option, Some, option_map, find, All, refl, codes, arith}
use Rattle.std.proofs.lemmas.List.{length-map}
use Rattle.std.proofs.lemmas.List.Elements.{All-nil, All-cons}
use Rattle.rb_yaml.specs.Tree.{YamlTree, Trees, Entries, scalar, seq, mapping, no_tree, tree, no_entry, entry}
use Rattle.rb_yaml.specs.TreeSizes.{tree_size, items_size, entries_size, docs_size}
use Rattle.rb_yaml.proofs.SizeFacts.{tree_some}
use Rattle.rb_values.specs.Values.{Entry, tree_list, entry_list, sequence_items, map_entries, entries_by, entries_at}
use Rattle.rb_acl.specs.Numbering.{IsRulesNumbered, IsPolicyNumbered, AreNumbered}
use Rattle.rb_acl_doc.specs.Policies.{rule_of, type_of, policy_of, policies_from}

-- how many values stand under the keys
abbrev total : List Entry → ℕ
total [] = 0
total (e ∷ es) = tree_size e.1 + total es

-- ---- values

list_le : (items : Trees) → length (tree_list items) ≤ items_size items
unfolding tree_size
list_le no_tree = omega arith
list_le (tree value values) = omega (arith, tree_some value, list_le values)

-- a value has the items of a sequence in it
items_le : (value : YamlTree) → length (sequence_items value) ≤ tree_size value
unfolding tree_size
items_le (scalar line text) = omega arith
items_le (seq line items) = omega (arith, list_le items)
items_le (mapping line entries) = omega arith

entry_list_total : (entries : Entries) → total (entry_list entries) ≡ entries_size entries
unfolding tree_size
entry_list_total no_entry = refl
entry_list_total (entry key value entries) = omega (arith, entry_list_total entries)

-- and those of a map
entries_le : (value : YamlTree) → total (map_entries value) ≤ tree_size value
unfolding tree_size
entries_le (scalar line text) = omega arith
entries_le (seq line items) = omega arith
entries_le (mapping line entries) = omega (arith, entry_list_total entries)

-- ---- what stands under a key

abbrev entries_found : Option Entry → List Entry
entries_found found = entries_by (option_map (λ e. e.1) found)

found_by : (t : Bool) (e : Entry) (es : List Entry) (found : Option Entry) → total (entries_found found) ≤ total es
    → total (entries_found (cond t (Some e) found)) ≤ total (e ∷ es)
found_by true e es found h = omega (arith, entries_le e.1)
found_by false e es found h = omega (arith, h)

entries_at_le : (entries : List Entry) (key : List ℕ) → total (entries_at entries key) ≤ total entries
entries_at_le [] key = omega arith
entries_at_le (e ∷ es) key = found_by (bytes_eq e.0 key) e es (find (λ e. bytes_eq e.0 key) es) (entries_at_le es key)

count_le : (entries : List Entry) → length entries ≤ total entries
count_le [] = omega arith
count_le (e ∷ es) = omega (arith, tree_some e.1, count_le es)

-- ---- policies

rules_numbered : (e : Entry) → tree_size e.1 < 2 ^ 32 → IsRulesNumbered (type_of e)
rules_numbered e h = omega (arith, h, length-map (sequence_items e.1) rule_of, items_le e.1)

types_numbered : (entries : List Entry) → total entries < 2 ^ 32 → All IsRulesNumbered (map type_of entries)
types_numbered [] h = All-nil IsRulesNumbered
types_numbered (e ∷ es) h =
    All-cons IsRulesNumbered (type_of e) (map type_of es) (rules_numbered e (omega (arith, h))) (types_numbered es (omega (arith, h)))

policy_numbered : (file : List ℕ) (place : ℕ) (doc : YamlTree) → tree_size doc < 2 ^ 32 → IsPolicyNumbered (policy_of file place doc)
policy_numbered file place doc h =
    let types = entries_at (map_entries doc) (codes "for") in
    let few : total types < 2 ^ 32 = omega (arith, h, entries_le doc, entries_at_le (map_entries doc) (codes "for")) in
    (omega (arith, few, length-map types type_of, count_le types), types_numbered types few)

docs_numbered : (file : List ℕ) (place : ℕ) (docs : List YamlTree) → docs_size docs < 2 ^ 32 → All IsPolicyNumbered (policies_from file place docs)
docs_numbered file place [] h = All-nil IsPolicyNumbered
docs_numbered file place (doc ∷ docs) h =
    All-cons IsPolicyNumbered (policy_of file place doc) (policies_from file (place + 1) docs)
    (policy_numbered file place doc (omega (arith, h))) (docs_numbered file (place + 1) docs (omega (arith, h)))

docs_le : (file : List ℕ) (place : ℕ) (docs : List YamlTree) → length (policies_from file place docs) ≤ docs_size docs
docs_le file place [] = omega arith
docs_le file place (doc ∷ docs) = omega (arith, tree_some doc, docs_le file (place + 1) docs)

pub small_are_numbered : (file : List ℕ) (docs : List YamlTree) → docs_size docs < 2 ^ 32 → AreNumbered (record { docs = policies_from file 1 docs })
small_are_numbered file docs h = (omega (arith, h, docs_le file 1 docs), docs_numbered file 1 docs h)
