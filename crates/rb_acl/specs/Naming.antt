-- The rule that a clause names, and how it is told.
use Rattle.std.specs.Prelude.{◌≡◌, ℕ, ◌+◌, List, [], ◌++◌, Option, Some, None, codes, decimal, slice_get}
use Rattle.rb_acl.specs.Deciding.{Placed}
use Rattle.rb_acl.specs.declared.policy.Policies.{Policies}
use Rattle.rb_acl.specs.declared.policy.Policy.{Policy}
use Rattle.rb_acl.specs.declared.policy.TypeRules.{TypeRules}
use Rattle.rb_acl.specs.declared.policy.Clause.{Clause}
use Rattle.rb_acl.specs.declared.policy.Decision.{Decision}
use Rattle.rb_acl.specs.declared.policy.Decision.TheVariants.{Allowed, Denied, NoneAllows}

-- this rule is the one at its place: of the document, of the type in it and of the rule under that
-- type with these numbers
abbrev pub StandsIn : Policies → Placed → Type 0
StandsIn policies c =
    (t : TypeRules) × (slice_get policies.docs c.place.doc ≡ Some c.policy)
    × (slice_get c.policy.types c.place.type_index ≡ Some t)
    × (slice_get t.rules c.place.rule ≡ Some c.rule) × (c.type_name ≡ t.name)

-- a rule of the policies stands at this place
abbrev pub NamesRule : Policies → Clause → Type 0
NamesRule policies place = (c : Placed) × (c.place ≡ place) × StandsIn policies c

-- so it does at the place that the decision names, if it names one
abbrev pub IsNamed : Policies → Decision → Type 0
IsNamed policies (Allowed place) = NamesRule policies place
IsNamed policies (Denied place) = NamesRule policies place
IsNamed policies NoneAllows = Unit {0}

-- FILE#PLACE for TYPE rule R
abbrev pub place_text : List ℕ → ℕ → List ℕ → ℕ → List ℕ
place_text file place type_name rule =
    file ++ (codes "#" ++ (decimal place ++ (codes " for " ++ (type_name
    ++ (codes " rule " ++ decimal rule)))))

-- that of a rule of a policy, where the rules of a type are numbered from 1
abbrev pub rule_text : Policy → ℕ → Option TypeRules → List ℕ
rule_text policy rule None = []
rule_text policy rule (Some t) =
    place_text policy.file policy.place t.name (rule + 1)

abbrev pub text_of_clause : Option Policy → Clause → List ℕ
text_of_clause None clause = []
text_of_clause (Some policy) clause =
    rule_text policy clause.rule (slice_get policy.types clause.type_index)

-- how a clause is told
abbrev pub clause_text : Policies → Clause → List ℕ
clause_text policies clause = text_of_clause (slice_get policies.docs clause.doc) clause
