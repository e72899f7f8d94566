-- The patterns of a policy, and whether they are read.
use Rattle.std.specs.Prelude.{◌≡◌, ◌≢◌, ◌⊎◌, ℕ, List, [], ◌∷◌, ◌++◌, Result, Ok, Err}
use Rattle.std.specs.List.{flat_map}
use Rattle.rb_text.specs.Causes.{IsCause}
use Rattle.rb_text.specs.Matching.{IsPatternText}
use Rattle.rb_text.specs.declared.pattern_err.PatternErr.{PatternErr}
use Rattle.rb_text.specs.declared.pattern_err.PatternErr.TheVariants.{NoMemory}
use Rattle.rb_text.specs.declared.value.Value.{Value}
use Rattle.rb_text.specs.declared.value.Value.TheVariants.{Plain, Pattern}
use Rattle.rb_acl.specs.declared.policy.ByRule.{ByRule}
use Rattle.rb_acl.specs.declared.policy.ByRule.TheVariants.{User, Group}
use Rattle.rb_acl.specs.declared.policy.Scope.{Scope}
use Rattle.rb_acl.specs.declared.policy.Scope.TheVariants.{Project, Application}
use Rattle.rb_acl.specs.declared.policy.Test.{Test}
use Rattle.rb_acl.specs.declared.policy.Test.TheVariants.{Match, Equals, Contains, Subset}
use Rattle.rb_acl.specs.declared.policy.Rule.{Rule}
use Rattle.rb_acl.specs.declared.policy.TypeRules.{TypeRules}
use Rattle.rb_acl.specs.declared.policy.Policy.{Policy}

abbrev pub value_patterns : Value → List (List ℕ)
value_patterns (Plain text) = []
value_patterns (Pattern text) = text ∷ []

abbrev pub scope_patterns : Scope → List (List ℕ)
scope_patterns (Project v) = value_patterns v
scope_patterns (Application v) = value_patterns v

abbrev pub by_patterns : ByRule → List (List ℕ)
by_patterns (User v) = value_patterns v
by_patterns (Group v) = value_patterns v

abbrev pub test_patterns : Test → List (List ℕ)
test_patterns (Match key patterns) = patterns
test_patterns (Equals key texts) = []
test_patterns (Contains key texts) = []
test_patterns (Subset key texts) = []

abbrev pub rule_patterns : Rule → List (List ℕ)
rule_patterns rule = flat_map test_patterns rule.tests

abbrev pub type_patterns : TypeRules → List (List ℕ)
type_patterns t = flat_map rule_patterns t.rules

-- the texts that stand in a policy as patterns
abbrev pub patterns_of : Policy → List (List ℕ)
patterns_of policy = scope_patterns policy.scope
    ++ (flat_map by_patterns policy.by ++ flat_map type_patterns policy.types)

-- each of these is read as a pattern
abbrev pub ArePatterns : List (List ℕ) → Type 0
ArePatterns [] = Unit {0}
ArePatterns (text ∷ texts) = IsPatternText text × ArePatterns texts

-- one of these may be refused as a pattern for this cause, which is not want of memory
abbrev pub HasRefused : PatternErr → List (List ℕ) → Type 0
HasRefused e [] = ⊥
HasRefused e (text ∷ texts) = (IsCause text e × (e ≢ NoMemory)) ⊎ HasRefused e texts

-- How the reading of what holds these patterns ends: each was read, or one was refused so, or
-- memory was wanting.
abbrev pub EndsOn : {T : Type 0} → List (List ℕ) → Result T PatternErr → Type 0
EndsOn patterns (Ok made) = ArePatterns patterns
EndsOn patterns (Err e) = (e ≡ NoMemory) ⊎ HasRefused e patterns
