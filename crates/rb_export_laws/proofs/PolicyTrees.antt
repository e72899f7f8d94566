-- What is read of the trees of policies.
use Rattle.std.proofs.Common.{◌≡◌, ◌∙◌, ℕ, false, cond, List, [], ◌∷◌, ◌++◌, map, codes, bytes_eq, find, Option, Some, None, option_map, refl, ap}
use Rattle.std.specs.List.{flat_map, AllByRecursion as Each}
use Rattle.rb_text.specs.Values.{value_of, text_of}
use Rattle.rb_text.specs.declared.value.Value.{Value}
use Rattle.rb_values.specs.Values.{Entry, sequence_items, map_entries, value_at}
use Rattle.rb_acl.specs.declared.policy.ByRule.{ByRule}
use Rattle.rb_acl.specs.declared.policy.ByRule.TheVariants.{User, Group}
use Rattle.rb_acl.specs.declared.policy.Scope.{Scope}
use Rattle.rb_acl.specs.declared.policy.Scope.TheVariants.{Project, Application}
use Rattle.rb_acl.specs.declared.policy.Test.{Test}
use Rattle.rb_acl.specs.declared.policy.Test.TheVariants.{Match, Equals, Contains, Subset}
use Rattle.rb_acl.specs.declared.policy.Rule.{Rule}
use Rattle.rb_acl.specs.declared.policy.TypeRules.{TypeRules}
use Rattle.rb_acl.specs.declared.policy.Policy.{Policy}
use Rattle.rb_acl_doc.specs.Texts.{texts_in, texts_in_value, texts_at}
use Rattle.rb_acl_doc.specs.Policies.{scope_of, names_in, by_of, kind_of_test, tests_by, tests_in, rule_with, rule_of, type_of, policy_of}
use Rattle.rb_acl_doc.specs.declared.test_kind.TestKind.{TestKind}
use Rattle.rb_canon.specs.Values.{list_of, map_of}
use Rattle.rb_canon_laws.specs.Trees.{tree_of}
use Rattle.rb_export.specs.Groups.{Group as GroupOf, groups_by}
use Rattle.rb_export.specs.Policies.{texts_value, scope_entry, by_key, by_entry, by_entries, test_key, test_entry, tests_entry, tests_entries, rule_entries, rule_value, type_entry, policy_value}
use Rattle.rb_export_laws.proofs.GroupFacts.{Splits, flat_groups, each_group, single_all}
use Rattle.rb_export_laws.proofs.Lines.{flat_same, map_same}
use Rattle.rb_export_laws.proofs.Values.{read_field, fields_read}

-- ---- what a reader gives

-- the value is the one that is read of its text
abbrev pub IsReadValue : Value → Type 0
IsReadValue v = value_of (text_of v) ≡ v

abbrev pub IsReadScope : Scope → Type 0
IsReadScope (Project v) = IsReadValue v
IsReadScope (Application v) = IsReadValue v

abbrev pub IsReadBy : ByRule → Type 0
IsReadBy (User v) = IsReadValue v
IsReadBy (Group v) = IsReadValue v

-- ---- texts

pub texts_read : (texts : List (List ℕ)) → texts_in_value (tree_of (texts_value texts)) ≡ texts
texts_read [] = refl
texts_read (t ∷ ts) = ap (λ ys. t ∷ ys) (texts_read ts)

-- ---- where a policy holds, and whom it speaks of

pub scope_read : (s : Scope) → IsReadScope s
    → scope_of (map read_field (scope_entry s ∷ [])) ≡ s
scope_read (Project v) h = ap Project h
scope_read (Application v) h = ap Application h

abbrev names_of : GroupOf ByRule → List ByRule
names_of g = names_in (read_field (by_entry g))

names_split : Splits names_of
names_split name x xs = refl

name_read : (x : ByRule) → IsReadBy x → names_of (by_key x, x ∷ []) ≡ x ∷ []
name_read (User v) h = ap (λ w. User w ∷ []) h
name_read (Group v) h = ap (λ w. Group w ∷ []) h

pub by_read : (bs : List ByRule) → Each IsReadBy bs → by_of (map read_field (by_entries bs)) ≡ bs
by_read [] h = refl
by_read (b ∷ bs) h =
    ap (flat_map names_in) (map_same read_field by_entry (λ g. read_field (by_entry g)) (λ g. refl)
    (groups_by by_key (b ∷ bs)))
    ∙ flat_same names_in (λ g. read_field (by_entry g)) names_of (λ g. refl)
    (groups_by by_key (b ∷ bs))
    ∙ flat_groups names_of names_split by_key (b ∷ bs)
    ∙ single_all IsReadBy (λ x. names_of (by_key x, x ∷ [])) name_read (b ∷ bs) h

-- ---- tests

abbrev tests_of : GroupOf Test → List Test
tests_of g = tests_in (read_field (tests_entry g))

by_kind : (kind : Option TestKind) (e : Entry) (es : List Entry)
    → tests_by kind (e ∷ es) ≡ tests_by kind (e ∷ []) ++ tests_by kind es
by_kind None e es = refl
by_kind (Some kind) e es = refl

tests_split : Splits tests_of
tests_split name x xs =
    by_kind (kind_of_test name) (read_field (test_entry x))
    (map_entries (tree_of (map_of (map test_entry xs))))

test_read : (x : Test) → tests_of (test_key x, x ∷ []) ≡ x ∷ []
test_read (Match property patterns) = ap (λ ys. Match property ys ∷ []) (texts_read patterns)
test_read (Equals property texts) = ap (λ ys. Equals property ys ∷ []) (texts_read texts)
test_read (Contains property texts) = ap (λ ys. Contains property ys ∷ []) (texts_read texts)
test_read (Subset property texts) = ap (λ ys. Subset property ys ∷ []) (texts_read texts)

flat_each : (f : Test → List Test) → ((x : Test) → f x ≡ x ∷ []) → (xs : List Test)
    → flat_map f xs ≡ xs
flat_each f h [] = refl
flat_each f h (x ∷ xs) =
    ap (λ ys. ys ++ flat_map f xs) (h x) ∙ ap (λ ys. x ∷ ys) (flat_each f h xs)

pub tests_read : (ts : List Test) → flat_map tests_in (map read_field (tests_entries ts)) ≡ ts
tests_read ts =
    ap (flat_map tests_in) (map_same read_field tests_entry (λ g. read_field (tests_entry g))
    (λ g. refl) (groups_by test_key ts))
    ∙ flat_same tests_in (λ g. read_field (tests_entry g)) tests_of (λ g. refl)
    (groups_by test_key ts)
    ∙ flat_groups tests_of tests_split test_key ts
    ∙ flat_each (λ x. tests_of (test_key x, x ∷ [])) test_read ts

-- ---- rules

-- nothing stands under a key in fields of other keys
none_under : (key : List ℕ) (gs : List (GroupOf Test))
    → Each (λ g. bytes_eq g.0 key ≡ false) gs
    → value_at (map read_field (map tests_entry gs)) key ≡ None
none_under key [] h = refl
none_under key (g ∷ gs) h =
    ap (λ b. option_map (λ e. e.1) (cond b (Some (read_field (tests_entry g)))
    (find (λ e. bytes_eq e.0 key) (map read_field (map tests_entry gs))))) h.0
    ∙ none_under key gs h.1

no_actions : (key : List ℕ) → ((x : Test) → bytes_eq (test_key x) key ≡ false) → (ts : List Test)
    → texts_at (map read_field (tests_entries ts)) key ≡ []
no_actions key other ts =
    ap texts_in (none_under key (groups_by test_key ts)
    (each_group (λ g. bytes_eq g.0 key ≡ false) test_key (λ x xs. other x) ts))

is_no_allow : (x : Test) → bytes_eq (test_key x) (codes "allow") ≡ false
is_no_allow (Match property patterns) = refl
is_no_allow (Equals property texts) = refl
is_no_allow (Contains property texts) = refl
is_no_allow (Subset property texts) = refl

is_no_deny : (x : Test) → bytes_eq (test_key x) (codes "deny") ≡ false
is_no_deny (Match property patterns) = refl
is_no_deny (Equals property texts) = refl
is_no_deny (Contains property texts) = refl
is_no_deny (Subset property texts) = refl

abbrev pub rule_made : List (List ℕ) → List (List ℕ) → List Test → Rule
rule_made allow deny tests = record { allow = allow; deny = deny; tests = tests }

pub rule_same : {a b c d : List (List ℕ)} {s t : List Test} → a ≡ b → c ≡ d → s ≡ t
    → rule_made a c s ≡ rule_made b d t
rule_same {b = b} {c = c} {d = d} {s = s} p q r =
    ap (λ x. rule_made x c s) p ∙ ap (λ x. rule_made b x s) q ∙ ap (λ x. rule_made b d x) r

pub rule_by : (allow deny : List (List ℕ)) (tests : List Test)
    → rule_with (map read_field (rule_entries (rule_made allow deny tests)))
    ≡ rule_made allow deny tests
rule_by [] [] tests =
    rule_same (no_actions (codes "allow") is_no_allow tests)
    (no_actions (codes "deny") is_no_deny tests) (tests_read tests)
rule_by [] (d ∷ ds) tests =
    rule_same (no_actions (codes "allow") is_no_allow tests) (texts_read (d ∷ ds))
    (tests_read tests)
rule_by (a ∷ more) [] tests =
    rule_same (texts_read (a ∷ more)) (no_actions (codes "deny") is_no_deny tests)
    (tests_read tests)
rule_by (a ∷ more) (d ∷ ds) tests =
    rule_same (texts_read (a ∷ more)) (texts_read (d ∷ ds)) (tests_read tests)

pub rule_read : (rule : Rule) → rule_of (tree_of (rule_value rule)) ≡ rule
rule_read rule =
    ap rule_with (fields_read (rule_entries rule)) ∙ rule_by rule.allow rule.deny rule.tests

rules_read : (rules : List Rule)
    → map rule_of (sequence_items (tree_of (list_of (map rule_value rules)))) ≡ rules
rules_read [] = refl
rules_read (r ∷ rs) =
    ap (λ x. x ∷ map rule_of (sequence_items (tree_of (list_of (map rule_value rs)))))
    (rule_read r) ∙ ap (λ xs. r ∷ xs) (rules_read rs)

types_read : (types : List TypeRules) → map type_of (map read_field (map type_entry types)) ≡ types
types_read [] = refl
types_read (t ∷ ts) =
    ap (λ rules. record { name = t.name; rules = rules }
    ∷ map type_of (map read_field (map type_entry ts))) (rules_read t.rules)
    ∙ ap (λ xs. t ∷ xs) (types_read ts)

-- ---- policies

-- the scope and those whom a policy speaks of are as they are read
pub record IsReadPolicy (policy : Policy) : Type 0 where
  pub scope : IsReadScope policy.scope
  pub by : Each IsReadBy policy.by

abbrev pub policy_made : List ℕ → ℕ → Scope → List ByRule → List TypeRules → Policy
policy_made file place scope by types = record {
  file = file;
  place = place;
  scope = scope;
  by = by;
  types = types;
}

pub policy_read : (file : List ℕ) (place : ℕ) (policy : Policy) → IsReadPolicy policy
    → policy_of file place (tree_of (policy_value policy))
    ≡ policy_made file place policy.scope policy.by policy.types
policy_read file place policy h =
    ap (λ s. policy_made file place s
    (by_of (map_entries (tree_of (map_of (by_entries policy.by)))))
    (map type_of (map_entries (tree_of (map_of (map type_entry policy.types))))))
    (scope_read policy.scope h.scope)
    ∙ ap (λ bs. policy_made file place policy.scope bs
    (map type_of (map_entries (tree_of (map_of (map type_entry policy.types))))))
    (ap by_of (fields_read (by_entries policy.by)) ∙ by_read policy.by h.by)
    ∙ ap (λ ts. policy_made file place policy.scope policy.by ts)
    (ap (map type_of) (fields_read (map type_entry policy.types)) ∙ types_read policy.types)
