-- The document that a policy is written as.
use Rattle.std.specs.Prelude.{ℕ, List, [], ◌∷◌, ◌++◌, map, codes}
use Rattle.rb_text.specs.Values.{text_of}
use Rattle.rb_acl.specs.declared.policy.ByRule.{ByRule}
use Rattle.rb_acl.specs.declared.policy.ByRule.TheVariants.{User, Group}
use Rattle.rb_acl.specs.declared.policy.Scope.{Scope}
use Rattle.rb_acl.specs.declared.policy.Scope.TheVariants.{Project, Application}
use Rattle.rb_acl.specs.declared.policy.Test.{Test}
use Rattle.rb_acl.specs.declared.policy.Test.TheVariants.{Match, Equals, Contains, Subset}
use Rattle.rb_acl.specs.declared.policy.Rule.{Rule}
use Rattle.rb_acl.specs.declared.policy.TypeRules.{TypeRules}
use Rattle.rb_acl.specs.declared.policy.Policy.{Policy}
use Rattle.rb_canon.specs.Values.{CanonKey, plain, quoted, CanonTree, one_text, list_of, map_of}
use Rattle.rb_export.specs.Groups.{Group as GroupOf, groups_by}

-- a key with its value
abbrev pub Entry : Type 0
Entry = CanonKey × CanonTree

abbrev pub under : List ℕ → CanonTree → Entry
under key value = (plain key, value)

-- texts, each as an item
abbrev pub texts_value : List (List ℕ) → CanonTree
texts_value texts = list_of (map one_text texts)

abbrev pub scope_entry : Scope → Entry
scope_entry (Project v) = under (codes "project") (one_text (text_of v))
scope_entry (Application v) = under (codes "application") (one_text (text_of v))

-- ---- whom a policy speaks of

abbrev pub by_key : ByRule → List ℕ
by_key (User v) = codes "username"
by_key (Group v) = codes "group"

abbrev pub by_text : ByRule → List ℕ
by_text (User v) = text_of v
by_text (Group v) = text_of v

-- users, or groups
abbrev pub by_entry : GroupOf ByRule → Entry
by_entry g = under g.0 (texts_value (map by_text g.1))

-- neighbours of one kind stand in one list; nobody is no user
abbrev pub by_entries : List ByRule → List Entry
by_entries [] = under (codes "username") (list_of []) ∷ []
by_entries (b ∷ bs) = map by_entry (groups_by by_key (b ∷ bs))

-- ---- rules

-- the key that a kind of test stands under
abbrev pub test_key : Test → List ℕ
test_key (Match property patterns) = codes "match"
test_key (Equals property texts) = codes "equals"
test_key (Contains property texts) = codes "contains"
test_key (Subset property texts) = codes "subset"

-- a property with its texts
abbrev pub test_entry : Test → Entry
test_entry (Match property patterns) = (quoted property, texts_value patterns)
test_entry (Equals property texts) = (quoted property, texts_value texts)
test_entry (Contains property texts) = (quoted property, texts_value texts)
test_entry (Subset property texts) = (quoted property, texts_value texts)

-- the tests of one kind
abbrev pub tests_entry : GroupOf Test → Entry
tests_entry g = under g.0 (map_of (map test_entry g.1))

-- neighbours of one kind stand in one map
abbrev pub tests_entries : List Test → List Entry
tests_entries tests = map tests_entry (groups_by test_key tests)

-- actions under their key, where there are some
abbrev pub actions_entries : List ℕ → List (List ℕ) → List Entry
actions_entries key [] = []
actions_entries key (action ∷ actions) = under key (texts_value (action ∷ actions)) ∷ []

abbrev pub rule_entries : Rule → List Entry
rule_entries rule = actions_entries (codes "allow") rule.allow
    ++ (actions_entries (codes "deny") rule.deny ++ tests_entries rule.tests)

abbrev pub rule_value : Rule → CanonTree
rule_value rule = map_of (rule_entries rule)

-- ---- policies

-- a type with its rules
abbrev pub type_entry : TypeRules → Entry
type_entry t = (quoted t.name, list_of (map rule_value t.rules))

-- where a policy holds, its rules, and whom it speaks of
abbrev pub policy_entries : Policy → List Entry
policy_entries policy =
    under (codes "context") (map_of (scope_entry policy.scope ∷ []))
    ∷ under (codes "for") (map_of (map type_entry policy.types))
    ∷ under (codes "by") (map_of (by_entries policy.by))
    ∷ []

abbrev pub policy_value : Policy → CanonTree
policy_value policy = map_of (policy_entries policy)
