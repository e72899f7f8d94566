-- The decision on an action, over all clauses of all policies.
use Rattle.std.specs.Prelude.{ℕ, ◌+◌, List, [], ◌∷◌, ◌++◌, Bool, true, false, Option, Some, None, option_map, find}
use Rattle.rb_acl.specs.Applying.{Question, decides}
use Rattle.rb_acl.specs.declared.effect.Effect.{Effect}
use Rattle.rb_acl.specs.declared.effect.Effect.TheVariants.{Deny, Allow}
use Rattle.rb_acl.specs.declared.policy.Policy.{Policy}
use Rattle.rb_acl.specs.declared.policy.TypeRules.{TypeRules}
use Rattle.rb_acl.specs.declared.policy.Rule.{Rule}
use Rattle.rb_acl.specs.declared.policy.Policies.{Policies}
use Rattle.rb_acl.specs.declared.policy.Clause.{Clause}
use Rattle.rb_acl.specs.declared.policy.Decision.{Decision}
use Rattle.rb_acl.specs.declared.policy.Decision.TheVariants.{Allowed, Denied, NoneAllows}

-- a rule at its place, with the policy and the type that it stands under
pub record Placed : Type 0 where
  pub place : Clause
  pub policy : Policy
  pub type_name : List ℕ
  pub rule : Rule

-- the rules of one type of one document, numbered from n
abbrev pub placed_rules : Policy → List ℕ → ℕ → ℕ → ℕ → List Rule → List Placed
placed_rules policy type_name doc type_index n [] = []
placed_rules policy type_name doc type_index n (rule ∷ rules) =
    record {
      place = record { doc = doc; type_index = type_index; rule = n };
      policy = policy;
      type_name = type_name;
      rule = rule;
    }
    ∷ placed_rules policy type_name doc type_index (n + 1) rules

-- those of all types of one document, the types numbered from n
abbrev pub placed_types : Policy → ℕ → ℕ → List TypeRules → List Placed
placed_types policy doc n [] = []
placed_types policy doc n (t ∷ ts) =
    placed_rules policy t.name doc n 0 t.rules ++ placed_types policy doc (n + 1) ts

-- those of all documents, numbered from n
abbrev pub placed_docs : ℕ → List Policy → List Placed
placed_docs n [] = []
placed_docs n (policy ∷ policies) =
    placed_types policy n 0 policy.types ++ placed_docs (n + 1) policies

-- all clauses, in order of documents, types and rules
abbrev pub clauses : Policies → List Placed
clauses policies = placed_docs 0 policies.docs

-- a clause applies, and has this effect on the action
abbrev pub clause_decides : Effect → Question → Placed → Bool
clause_decides effect question c = decides effect question c.policy c.type_name c.rule

-- it applies and denies the action
abbrev pub denies : Question → Placed → Bool
denies question = clause_decides Deny question

-- it applies and allows the action
abbrev pub allows : Question → Placed → Bool
allows question = clause_decides Allow question

-- the place of the first of these clauses that passes
abbrev pub first_place : (Placed → Bool) → List Placed → Option Clause
first_place test cs = option_map (λ c. c.place) (find test cs)

-- denied by the first that denies, else allowed by the first that allows, else no clause allows
abbrev pub decided : Option Clause → Option Clause → Decision
decided (Some c) allowed = Denied c
decided None (Some c) = Allowed c
decided None None = NoneAllows

abbrev pub is_allowed : Decision → Bool
is_allowed (Allowed clause) = true
is_allowed (Denied clause) = false
is_allowed NoneAllows = false

-- the decision on an action
abbrev pub decision_of : Policies → Question → Decision
decision_of policies question =
    decided (first_place (denies question) (clauses policies))
    (first_place (allows question) (clauses policies))
