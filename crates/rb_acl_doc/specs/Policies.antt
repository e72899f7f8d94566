-- The policy that a document is.
use Rattle.std.specs.Prelude.{ℕ, ◌+◌, List, [], ◌∷◌, Option, Some, None, map, codes, bytes_eq, if◌then◌else◌}
use Rattle.std.specs.List.{flat_map}
use Rattle.rb_text.specs.Values.{value_of}
use Rattle.rb_yaml.specs.Tree.{YamlTree}
use Rattle.rb_acl.specs.declared.policy.ByRule.{ByRule}
use Rattle.rb_acl.specs.declared.policy.ByRule.TheVariants.{User, Group}
use Rattle.rb_acl.specs.declared.policy.Scope.{Scope}
use Rattle.rb_acl.specs.declared.policy.Scope.TheVariants.{Project, Application}
use Rattle.rb_acl.specs.declared.policy.Test.{Test}
use Rattle.rb_acl.specs.declared.policy.Test.TheVariants as test
use Rattle.rb_acl.specs.declared.policy.Rule.{Rule}
use Rattle.rb_acl.specs.declared.policy.TypeRules.{TypeRules}
use Rattle.rb_acl.specs.declared.policy.Policy.{Policy}
use Rattle.rb_acl_doc.specs.Texts.{texts_in_value, texts_at, text_or_empty}
use Rattle.rb_values.specs.Values.{Entry, sequence_items, map_entries, has_key, entries_at}
use Rattle.rb_acl_doc.specs.declared.test_kind.TestKind.{TestKind}
use Rattle.rb_acl_doc.specs.declared.test_kind.TestKind.TheVariants as kind

-- a project where one is given, else the application
abbrev pub scope_of : List Entry → Scope
scope_of entries =
    if has_key entries (codes "project")
    then Project (value_of (text_or_empty entries (codes "project")))
    else Application (value_of (text_or_empty entries (codes "application")))

-- a user or a group, as its key says
abbrev pub somebody_named : List ℕ → List ℕ → ByRule
somebody_named key text =
    if bytes_eq key (codes "username") then User (value_of text) else Group (value_of text)

-- users and groups, as written
abbrev pub names_in : Entry → List ByRule
names_in e = map (somebody_named e.0) (texts_in_value e.1)

abbrev pub by_of : List Entry → List ByRule
by_of entries = flat_map names_in entries

-- the kind of test that a key of a rule writes
abbrev pub kind_of_test : List ℕ → Option TestKind
kind_of_test key =
    if bytes_eq key (codes "match") then Some kind.Match
    else if bytes_eq key (codes "equals") then Some kind.Equals
    else if bytes_eq key (codes "contains") then Some kind.Contains
    else if bytes_eq key (codes "subset") then Some kind.Subset
    else None

-- a property with its texts
abbrev pub test_of : TestKind → Entry → Test
test_of kind.Match property = test.Match property.0 (texts_in_value property.1)
test_of kind.Equals property = test.Equals property.0 (texts_in_value property.1)
test_of kind.Contains property = test.Contains property.0 (texts_in_value property.1)
test_of kind.Subset property = test.Subset property.0 (texts_in_value property.1)

abbrev pub tests_by : Option TestKind → List Entry → List Test
tests_by None properties = []
tests_by (Some which) properties = map (test_of which) properties

-- a test for each property, as written
abbrev pub tests_in : Entry → List Test
tests_in e = tests_by (kind_of_test e.0) (map_entries e.1)

abbrev pub rule_with : List Entry → Rule
rule_with entries = record {
  allow = texts_at entries (codes "allow");
  deny = texts_at entries (codes "deny");
  tests = flat_map tests_in entries;
}

abbrev pub rule_of : YamlTree → Rule
rule_of value = rule_with (map_entries value)

-- a type with its rules
abbrev pub type_of : Entry → TypeRules
type_of e = record { name = e.0; rules = map rule_of (sequence_items e.1) }

-- the policy of a document with these entries, which is the one at this place of the file
abbrev pub policy_with : List ℕ → ℕ → List Entry → Policy
policy_with file place entries = record {
  file = file;
  place = place;
  scope = scope_of (entries_at entries (codes "context"));
  by = by_of (entries_at entries (codes "by"));
  types = map type_of (entries_at entries (codes "for"));
}

abbrev pub policy_of : List ℕ → ℕ → YamlTree → Policy
policy_of file place doc = policy_with file place (map_entries doc)

-- the policies of the documents of a file, which are numbered from n
abbrev pub policies_from : List ℕ → ℕ → List YamlTree → List Policy
policies_from file n [] = []
policies_from file n (doc ∷ docs) = policy_of file n doc ∷ policies_from file (n + 1) docs
