-- Policies in which no pattern stands.
use Rattle.std.specs.Prelude.{Bool, true, false, ◌&&◌, [], ◌∷◌}
use Rattle.std.specs.List.{list_all}
use Rattle.rb_text.specs.Values.{is_plain_value}
use Rattle.rb_acl.specs.declared.policy.Scope.{Scope}
use Rattle.rb_acl.specs.declared.policy.Scope.TheVariants.{Project, Application}
use Rattle.rb_acl.specs.declared.policy.ByRule.{ByRule}
use Rattle.rb_acl.specs.declared.policy.ByRule.TheVariants.{User, Group}
use Rattle.rb_acl.specs.declared.policy.Test.{Test}
use Rattle.rb_acl.specs.declared.policy.Test.TheVariants.{Match, Equals, Contains, Subset}
use Rattle.rb_acl.specs.declared.policy.Rule.{Rule}
use Rattle.rb_acl.specs.declared.policy.TypeRules.{TypeRules}
use Rattle.rb_acl.specs.declared.policy.Policy.{Policy}
use Rattle.rb_acl.specs.declared.policy.Policies.{Policies}

abbrev pub is_plain_scope : Scope → Bool
is_plain_scope (Project v) = is_plain_value v
is_plain_scope (Application v) = is_plain_value v

abbrev pub is_plain_by : ByRule → Bool
is_plain_by (User v) = is_plain_value v
is_plain_by (Group v) = is_plain_value v

-- a test without a pattern: `match` alone has some, and may list none
abbrev pub is_plain_test : Test → Bool
is_plain_test (Match key []) = true
is_plain_test (Match key (pattern ∷ patterns)) = false
is_plain_test (Equals key texts) = true
is_plain_test (Contains key texts) = true
is_plain_test (Subset key texts) = true

abbrev pub is_plain_rule : Rule → Bool
is_plain_rule rule = list_all is_plain_test rule.tests

abbrev pub is_plain_rules : TypeRules → Bool
is_plain_rules t = list_all is_plain_rule t.rules

abbrev pub is_plain_policy : Policy → Bool
is_plain_policy policy =
    (is_plain_scope policy.scope && list_all is_plain_by policy.by)
    && list_all is_plain_rules policy.types

-- no pattern stands in the policies
abbrev pub are_plain : Policies → Bool
are_plain policies = list_all is_plain_policy policies.docs
