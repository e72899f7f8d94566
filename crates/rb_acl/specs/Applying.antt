-- When a rule of a policy applies, and what it says of an action.
use Rattle.std.specs.Prelude.{ℕ, List, [], ◌∷◌, Bool, false, ◌&&◌, ◌||◌, bytes_eq, codes, if◌then◌else◌}
use Rattle.std.specs.List.{list_any, list_all}
use Rattle.rb_causes.specs.Signs.{comma}
use Rattle.rb_causes.specs.Texts.{joined, comma_items, has_text, is_tags}
use Rattle.rb_causes.specs.declared.items.Prop.{Prop}
use Rattle.rb_text.specs.Matching.{matches_whole}
use Rattle.rb_text.specs.Values.{value_is}
use Rattle.rb_acl.specs.declared.effect.Effect.{Effect}
use Rattle.rb_acl.specs.declared.effect.Effect.TheVariants.{Deny, Allow}
use Rattle.rb_acl.specs.declared.policy.Scope.{Scope}
use Rattle.rb_acl.specs.declared.policy.Scope.TheVariants.{Project, Application}
use Rattle.rb_acl.specs.declared.policy.Context.{Context}
use Rattle.rb_acl.specs.declared.policy.Context.TheVariants as context
use Rattle.rb_acl.specs.declared.policy.ByRule.{ByRule}
use Rattle.rb_acl.specs.declared.policy.ByRule.TheVariants.{User, Group}
use Rattle.rb_acl.specs.declared.policy.Test.{Test}
use Rattle.rb_acl.specs.declared.policy.Test.TheVariants.{Match, Equals, Contains, Subset}
use Rattle.rb_acl.specs.declared.policy.Rule.{Rule}
use Rattle.rb_acl.specs.declared.policy.Policy.{Policy}
use Rattle.rb_acl.specs.declared.policy.Caller.{Caller}
use Rattle.rb_acl.specs.declared.policy.Resource.{Resource}

-- the one name that an application has
abbrev pub the_application : List ℕ
the_application = codes "rundeck"

-- the context is of the scope's kind, and the scope's value holds of its name
abbrev pub scope_holds : Scope → Context → Bool
scope_holds (Project v) (context.Project name) = value_is v name
scope_holds (Application v) context.Application = value_is v the_application
scope_holds (Project v) context.Application = false
scope_holds (Application v) (context.Project name) = false

-- it speaks of the caller's user, or of one of the caller's groups
abbrev pub by_holds : Caller → ByRule → Bool
by_holds caller (User v) = value_is v caller.user
by_holds caller (Group v) = list_any (value_is v) caller.groups

-- the text under a key: of equal keys the first counts, and a missing one is empty
abbrev pub prop_text : List Prop → List ℕ → List ℕ
prop_text [] key = []
prop_text (p ∷ ps) key = if bytes_eq p.key key then p.text else prop_text ps key

-- the text of a property; that of tags is the resource's tags, parted by commas, whatever attribute
-- is called so
abbrev pub property_text : Resource → List ℕ → List ℕ
property_text resource key =
    if is_tags key then joined comma resource.tags else prop_text resource.props key

-- the items of a property: the tags, or the parts of its text at commas, trimmed, without empty
-- ones
abbrev pub property_items : Resource → List ℕ → List (List ℕ)
property_items resource key =
    if is_tags key then resource.tags else comma_items (prop_text resource.props key)

-- a test of a rule holds for the resource: every pattern matches the text whole, or the text equals
-- every listed one, or every listed one is among the items, or every item is listed
abbrev pub test_holds : Resource → Test → Bool
test_holds resource (Match key patterns) =
    list_all (λ pattern. matches_whole pattern (property_text resource key)) patterns
test_holds resource (Equals key texts) =
    list_all (λ text. bytes_eq (property_text resource key) text) texts
test_holds resource (Contains key texts) = list_all (has_text (property_items resource key)) texts
test_holds resource (Subset key texts) = list_all (has_text texts) (property_items resource key)

-- what is asked: whether this caller may do this action here on this resource
pub record Question : Type 0 where
  pub caller : Caller
  pub context : Context
  pub resource : Resource
  pub action : List ℕ

abbrev pub question_of : Caller → Context → Resource → List ℕ → Question
question_of caller here resource action =
    record { caller = caller; context = here; resource = resource; action = action }

-- a policy speaks of a caller in a context: its scope holds there, and one of its `by` entries does
abbrev pub speaks_of : Policy → Caller → Context → Bool
speaks_of policy caller here =
    scope_holds policy.scope here && list_any (by_holds caller) policy.by

-- rules for this type of resources, in this policy, are asked: it speaks of who asks and where, and
-- the type is the resource's
abbrev pub is_asked : Question → Policy → List ℕ → Bool
is_asked question policy type_name =
    speaks_of policy question.caller question.context
    && bytes_eq type_name question.resource.type_name

-- such a rule applies: its tests hold too
abbrev pub applies : Question → Policy → List ℕ → Rule → Bool
applies question policy type_name rule =
    is_asked question policy type_name && list_all (test_holds question.resource) rule.tests

-- an action that the list names, or any where it has a star
abbrev pub names_action : List (List ℕ) → List ℕ → Bool
names_action actions action =
    list_any (λ a. bytes_eq a action || bytes_eq a (codes "*")) actions

-- the actions on which a rule has this effect
abbrev pub listed_actions : Effect → Rule → List (List ℕ)
listed_actions Deny rule = rule.deny
listed_actions Allow rule = rule.allow

-- it applies, and has this effect on the action
abbrev pub decides : Effect → Question → Policy → List ℕ → Rule → Bool
decides effect question policy type_name rule =
    applies question policy type_name rule
    && names_action (listed_actions effect rule) question.action

-- what is left of that where the rule is asked: it names the action, and its tests hold
abbrev pub rule_decides : Effect → Question → Rule → Bool
rule_decides effect question rule =
    names_action (listed_actions effect rule) question.action
    && list_all (test_holds question.resource) rule.tests
