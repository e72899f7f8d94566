-- Policies whose clauses 32 bits number.
use Rattle.std.specs.Prelude.{◌<◌, ◌^◌, length, All}
use Rattle.rb_acl.specs.declared.policy.Policies.{Policies}
use Rattle.rb_acl.specs.declared.policy.Policy.{Policy}
use Rattle.rb_acl.specs.declared.policy.TypeRules.{TypeRules}

-- the rules of a type are fewer than 2^32
abbrev pub IsRulesNumbered : TypeRules → Type 0
IsRulesNumbered t = length t.rules < 2 ^ 32

-- so are the types of a document, and the rules of each
abbrev pub IsPolicyNumbered : Policy → Type 0
IsPolicyNumbered policy = (length policy.types < 2 ^ 32) × All IsRulesNumbered policy.types

-- so are the documents, the types of each and the rules of each
abbrev pub AreNumbered : Policies → Type 0
AreNumbered policies = (length policies.docs < 2 ^ 32) × All IsPolicyNumbered policies.docs
