-- The trees of policies that were read have no flaws.
use Rattle.std.proofs.Common.{◌≡◌, ◌∙◌, ℕ, Bool, true, false, cond, ◌||◌, List, [], ◌∷◌, ◌++◌, map, take, drop, codes, bytes_eq, find, Option, Some, option_map, refl, ap, sym}
use Rattle.std.specs.List.{flat_map, list_all, AllByRecursion as Each}
use Rattle.rb_causes.proofs.Texts.{text_is}
use Rattle.rb_yaml.specs.Tree.{YamlTree, scalar, seq, mapping}
use Rattle.rb_values.specs.Values.{Entry, tree_list, entry_list, is_text, sequence_items, map_entries, entries_by, entries_at}
use Rattle.rb_acl.specs.declared.policy.ByRule.{ByRule}
use Rattle.rb_acl.specs.declared.policy.ByRule.TheVariants.{User, Group}
use Rattle.rb_acl.specs.declared.policy.Scope.{Scope}
use Rattle.rb_acl.specs.declared.policy.Scope.TheVariants.{Project, Application}
use Rattle.rb_acl.specs.declared.policy.Test.{Test}
use Rattle.rb_acl.specs.declared.policy.Test.TheVariants.{Match, Equals, Contains, Subset}
use Rattle.rb_acl.specs.declared.policy.Rule.{Rule}
use Rattle.rb_acl.specs.declared.policy.TypeRules.{TypeRules}
use Rattle.rb_acl.specs.declared.policy.Policy.{Policy}
use Rattle.rb_acl_doc.specs.Forms.{texts, list_of as in_list, any_keys, in_entry, in_map}
use Rattle.rb_acl_doc.specs.Keys.{has_filled, has_some_action, an_action, rule_keys, rule_form, context_form, names_somebody, somebody, by_keys, somebody_form, all_parts, document_keys, flaws_of}
use Rattle.rb_acl_doc.specs.Policies.{rule_of, type_of, policy_of}
use Rattle.rb_acl_doc.specs.declared.fault.AclKind.TheVariants.{NoAction, BadShape}
use Rattle.rb_canon.specs.Values.{list_of, map_of}
use Rattle.rb_canon_laws.specs.Trees.{tree_of}
use Rattle.rb_export.specs.Groups.{Group as GroupOf, groups_by, count_of_name}
use Rattle.rb_export.specs.Policies.{texts_value, scope_entry, by_key, by_text, by_entry, by_entries, test_key, test_entry, tests_entry, tests_entries, rule_entries, rule_value, type_entry, policy_value}
use Rattle.rb_export.proofs.Grouping.{first_group}
use Rattle.rb_export_laws.proofs.GroupFacts.{each_group}
use Rattle.rb_export_laws.proofs.Values.{read_field, fields_read}
use Rattle.rb_export_laws.proofs.PolicyTrees.{rule_made, rule_by}

-- the rule names an action that is not empty
abbrev pub HasAction : Rule → Type 0
HasAction rule = (has_filled rule.allow || has_filled rule.deny) ≡ true

abbrev pub HaveActions : List TypeRules → Type 0
HaveActions types = Each (λ t. Each HasAction t.rules) types

none_joined : {A : Type 0} (xs ys : List A) → xs ≡ [] → ys ≡ [] → xs ++ ys ≡ []
none_joined xs ys p q = ap (λ zs. zs ++ ys) p ∙ q

-- ---- texts

are_texts : (ts : List (List ℕ)) → list_all is_text (sequence_items (tree_of (texts_value ts)))
    ≡ true
are_texts [] = refl
are_texts (t ∷ ts) = are_texts ts

texts_pass : (key : List ℕ) (ts : List (List ℕ)) → texts key (tree_of (texts_value ts)) ≡ []
texts_pass key ts = ap (λ b. cond b [] (BadShape key ∷ [])) (are_texts ts)

-- ---- where a policy holds, and whom it speaks of

scope_passes : (s : Scope)
    → context_form (codes "context") (tree_of (map_of (scope_entry s ∷ []))) ≡ []
scope_passes (Project v) = refl
scope_passes (Application v) = refl

name_passes : (b : ByRule) (bs : List ByRule)
    → in_entry by_keys (read_field (by_entry (by_key b, bs))) ≡ []
name_passes (User v) bs = texts_pass (codes "username") (map by_text bs)
name_passes (Group v) bs = texts_pass (codes "group") (map by_text bs)

names_pass : (gs : List (GroupOf ByRule))
    → Each (λ g. in_entry by_keys (read_field (by_entry g)) ≡ []) gs
    → flat_map (in_entry by_keys) (map read_field (map by_entry gs)) ≡ []
names_pass [] h = refl
names_pass (g ∷ gs) h =
    none_joined (in_entry by_keys (read_field (by_entry g)))
    (flat_map (in_entry by_keys) (map read_field (map by_entry gs))) h.0 (names_pass gs h.1)

or_right : (b : Bool) → (b || true) ≡ true
or_right true = refl
or_right false = refl

names_one : (b : ByRule) (bs : List ByRule) (gs : List (GroupOf ByRule))
    → names_somebody (map read_field (map by_entry ((by_key b, bs) ∷ gs))) ≡ true
names_one (User v) bs gs = refl
names_one (Group v) bs gs = or_right _

by_entries_pass : (bs : List ByRule)
    → in_map by_keys somebody (codes "by") (Some (map read_field (by_entries bs))) ≡ []
by_entries_pass [] = refl
by_entries_pass (b ∷ bs) =
    let gs = groups_by by_key (b ∷ bs) in
    none_joined (flat_map (in_entry by_keys) (map read_field (map by_entry gs)))
    (somebody (codes "by") (map read_field (map by_entry gs)))
    (names_pass gs (each_group (λ g. in_entry by_keys (read_field (by_entry g)) ≡ []) by_key
    (λ x xs. name_passes x (x ∷ xs)) (b ∷ bs)))
    (ap (λ hs. somebody (codes "by") (map read_field (map by_entry hs))) (first_group by_key b bs)
    ∙ ap (λ t. cond t [] (BadShape (codes "by") ∷ []))
    (names_one b (b ∷ take (count_of_name by_key (by_key b) bs) bs)
    (groups_by by_key (drop (count_of_name by_key (by_key b) bs) bs))))

by_passes : (bs : List ByRule) → somebody_form (codes "by") (tree_of (map_of (by_entries bs))) ≡ []
by_passes bs =
    ap (λ es. in_map by_keys somebody (codes "by") (Some es)) (fields_read (by_entries bs))
    ∙ by_entries_pass bs

-- ---- rules

property_passes : (x : Test)
    → texts (read_field (test_entry x)).0 (read_field (test_entry x)).1 ≡ []
property_passes (Match property patterns) = texts_pass property patterns
property_passes (Equals property ts) = texts_pass property ts
property_passes (Contains property ts) = texts_pass property ts
property_passes (Subset property ts) = texts_pass property ts

properties_pass : (key : List ℕ) (xs : List Test)
    → any_keys texts key (tree_of (map_of (map test_entry xs))) ≡ []
properties_pass key [] = refl
properties_pass key (x ∷ xs) =
    none_joined (texts (read_field (test_entry x)).0 (read_field (test_entry x)).1)
    (any_keys texts key (tree_of (map_of (map test_entry xs)))) (property_passes x)
    (properties_pass key xs)

test_passes : (x : Test) (xs : List Test)
    → in_entry rule_keys (read_field (tests_entry (test_key x, xs))) ≡ []
test_passes (Match property patterns) xs = properties_pass (codes "match") xs
test_passes (Equals property ts) xs = properties_pass (codes "equals") xs
test_passes (Contains property ts) xs = properties_pass (codes "contains") xs
test_passes (Subset property ts) xs = properties_pass (codes "subset") xs

groups_pass : (gs : List (GroupOf Test))
    → Each (λ g. in_entry rule_keys (read_field (tests_entry g)) ≡ []) gs
    → flat_map (in_entry rule_keys) (map read_field (map tests_entry gs)) ≡ []
groups_pass [] h = refl
groups_pass (g ∷ gs) h =
    none_joined (in_entry rule_keys (read_field (tests_entry g)))
    (flat_map (in_entry rule_keys) (map read_field (map tests_entry gs))) h.0
    (groups_pass gs h.1)

tests_pass : (ts : List Test)
    → flat_map (in_entry rule_keys) (map read_field (tests_entries ts)) ≡ []
tests_pass ts =
    groups_pass (groups_by test_key ts)
    (each_group (λ g. in_entry rule_keys (read_field (tests_entry g)) ≡ []) test_key
    (λ x xs. test_passes x (x ∷ xs)) ts)

rule_entries_pass : (allow deny : List (List ℕ)) (tests : List Test)
    → flat_map (in_entry rule_keys) (map read_field (rule_entries (rule_made allow deny tests)))
    ≡ []
rule_entries_pass [] [] tests = tests_pass tests
rule_entries_pass [] (d ∷ ds) tests =
    none_joined (texts (codes "deny") (tree_of (texts_value (d ∷ ds)))) _
    (texts_pass (codes "deny") (d ∷ ds)) (tests_pass tests)
rule_entries_pass (a ∷ more) [] tests =
    none_joined (texts (codes "allow") (tree_of (texts_value (a ∷ more)))) _
    (texts_pass (codes "allow") (a ∷ more)) (tests_pass tests)
rule_entries_pass (a ∷ more) (d ∷ ds) tests =
    none_joined (texts (codes "allow") (tree_of (texts_value (a ∷ more)))) _
    (texts_pass (codes "allow") (a ∷ more))
    (none_joined (texts (codes "deny") (tree_of (texts_value (d ∷ ds)))) _
    (texts_pass (codes "deny") (d ∷ ds)) (tests_pass tests))

rule_passes : (key : List ℕ) (rule : Rule) → HasAction rule
    → rule_form key (tree_of (rule_value rule)) ≡ []
rule_passes key rule h =
    let es = map read_field (rule_entries rule) in
    ap (λ fs. in_map rule_keys an_action key (Some fs)) (fields_read (rule_entries rule))
    ∙ none_joined (flat_map (in_entry rule_keys) es) (an_action key es)
    (rule_entries_pass rule.allow rule.deny rule.tests)
    (ap (λ b. cond b [] (NoAction ∷ []))
    (ap (λ r. has_filled r.allow || has_filled r.deny) (rule_by rule.allow rule.deny rule.tests)
    ∙ h))

rules_pass : (key : List ℕ) (rules : List Rule) → Each HasAction rules
    → in_list rule_form key (tree_of (list_of (map rule_value rules))) ≡ []
rules_pass key [] h = refl
rules_pass key (r ∷ rs) h =
    none_joined (rule_form key (tree_of (rule_value r)))
    (in_list rule_form key (tree_of (list_of (map rule_value rs)))) (rule_passes key r h.0)
    (rules_pass key rs h.1)

types_pass : (key : List ℕ) (types : List TypeRules) → HaveActions types
    → any_keys (in_list rule_form) key (tree_of (map_of (map type_entry types))) ≡ []
types_pass key [] h = refl
types_pass key (t ∷ ts) h =
    none_joined (in_list rule_form t.name (tree_of (list_of (map rule_value t.rules))))
    (any_keys (in_list rule_form) key (tree_of (map_of (map type_entry ts))))
    (rules_pass t.name t.rules h.0) (types_pass key ts h.1)

-- ---- policies

pub policy_passes : (policy : Policy) → HaveActions policy.types
    → flaws_of (tree_of (policy_value policy)) ≡ []
policy_passes policy h =
    let scope =
    context_form (codes "context") (tree_of (map_of (scope_entry policy.scope ∷ []))) in
    let types = any_keys (in_list rule_form) (codes "for")
    (tree_of (map_of (map type_entry policy.types))) in
    let by = somebody_form (codes "by") (tree_of (map_of (by_entries policy.by))) in
    none_joined (scope ++ (types ++ (by ++ []))) [] (none_joined scope (types ++ (by ++ []))
    (scope_passes policy.scope) (none_joined types (by ++ [])
    (types_pass (codes "for") policy.types h) (none_joined by [] (by_passes policy.by) refl))) refl

-- ---- what documents without flaws give

parts_none : {A : Type 0} (xs ys : List A) → xs ++ ys ≡ [] → (xs ≡ []) × (ys ≡ [])
parts_none [] ys h = (refl, h)
parts_none (x ∷ xs) ys h = let never : ⊥ = cc in absurd never

unless_none : {A : Type 0} (b : Bool) (x : A) → cond b [] (x ∷ []) ≡ [] → b ≡ true
unless_none true x h = refl
unless_none false x h = let never : ⊥ = cc in absurd never

rule_acts : (key : List ℕ) (t : YamlTree) → rule_form key t ≡ [] → HasAction (rule_of t)
rule_acts key (scalar line text) h = let never : ⊥ = cc in absurd never
rule_acts key (seq line items) h = let never : ⊥ = cc in absurd never
rule_acts key (mapping line entries) h =
    unless_none (has_some_action (entry_list entries)) NoAction
    (parts_none (flat_map (in_entry rule_keys) (entry_list entries))
    (an_action key (entry_list entries)) h).1

rules_act : (key : List ℕ) (ts : List YamlTree) → flat_map (rule_form key) ts ≡ []
    → Each HasAction (map rule_of ts)
rules_act key [] h = tt
rules_act key (t ∷ ts) h =
    let parts = parts_none (rule_form key t) (flat_map (rule_form key) ts) h in
    (rule_acts key t parts.0, rules_act key ts parts.1)

type_acts : (key : List ℕ) (t : YamlTree) → in_list rule_form key t ≡ []
    → Each HasAction (map rule_of (sequence_items t))
type_acts key (scalar line text) h = tt
type_acts key (seq line items) h = rules_act key (tree_list items) h
type_acts key (mapping line entries) h = tt

entries_act : (es : List Entry) → flat_map (λ e. in_list rule_form e.0 e.1) es ≡ []
    → HaveActions (map type_of es)
entries_act [] h = tt
entries_act (e ∷ es) h =
    let parts = parts_none (in_list rule_form e.0 e.1)
    (flat_map (λ e. in_list rule_form e.0 e.1) es) h in
    (type_acts e.0 e.1 parts.0, entries_act es parts.1)

types_act : (key : List ℕ) (t : YamlTree) → any_keys (in_list rule_form) key t ≡ []
    → HaveActions (map type_of (map_entries t))
types_act key (scalar line text) h = tt
types_act key (seq line items) h = tt
types_act key (mapping line entries) h = entries_act (entry_list entries) h

for_acts : (key : List ℕ) (t : YamlTree) → key ≡ codes "for"
    → in_entry document_keys (key, t) ≡ [] → HaveActions (map type_of (map_entries t))
for_acts key t is h =
    types_act (codes "for") t (ap (λ k. in_entry document_keys (k, t)) (sym is) ∙ h)

found_acts : (e : Entry) (b : Bool) (found : Option Entry) → bytes_eq e.0 (codes "for") ≡ b
    → in_entry document_keys e ≡ []
    → HaveActions (map type_of (entries_by (option_map (λ e. e.1) found)))
    → HaveActions (map type_of (entries_by (option_map (λ e. e.1) (cond b (Some e) found))))
found_acts e true found is h g = for_acts e.0 e.1 (text_is e.0 (codes "for") is) h
found_acts e false found is h g = g

-- what stands under `for` among entries without flaws
under_for : (es : List Entry) → flat_map (in_entry document_keys) es ≡ []
    → HaveActions (map type_of (entries_at es (codes "for")))
under_for [] h = tt
under_for (e ∷ es) h =
    let parts = parts_none (in_entry document_keys e) (flat_map (in_entry document_keys) es) h in
    found_acts e (bytes_eq e.0 (codes "for")) (find (λ e. bytes_eq e.0 (codes "for")) es) refl
    parts.0 (under_for es parts.1)

pub policy_acts : (file : List ℕ) (place : ℕ) (doc : YamlTree) → flaws_of doc ≡ []
    → HaveActions (policy_of file place doc).types
policy_acts file place (scalar line text) h = tt
policy_acts file place (seq line items) h = tt
policy_acts file place (mapping line entries) h =
    under_for (entry_list entries)
    (parts_none (flat_map (in_entry document_keys) (entry_list entries))
    (all_parts (codes "document") (entry_list entries)) h).0
