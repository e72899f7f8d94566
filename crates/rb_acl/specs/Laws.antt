-- What a decision means for the rules of the policies, and what an added policy changes.
use Rattle.std.specs.Prelude.{◌≡◌, ◌<◌, ◌⊎◌, ◌↔◌, List, [], ◌∷◌, ◌++◌, Bool, true, false, All}
use Rattle.rb_acl.specs.Applying.{Question}
use Rattle.rb_acl.specs.Deciding.{Placed, denies, allows, decision_of}
use Rattle.rb_acl.specs.Naming.{StandsIn}
use Rattle.rb_acl.specs.declared.policy.Policies.{Policies}
use Rattle.rb_acl.specs.declared.policy.Policy.{Policy}
use Rattle.rb_acl.specs.declared.policy.TypeRules.{TypeRules}
use Rattle.rb_acl.specs.declared.policy.Rule.{Rule}
use Rattle.rb_acl.specs.declared.policy.Clause.{Clause}
use Rattle.rb_acl.specs.declared.policy.Decision.{Decision}
use Rattle.rb_acl.specs.declared.policy.Decision.TheVariants.{Allowed, Denied, NoneAllows}

-- an earlier document, or an earlier type of the same one, or an earlier rule of the same type
abbrev pub IsEarlier : Clause → Clause → Type 0
IsEarlier a b =
    (a.doc < b.doc) ⊎ ((a.doc ≡ b.doc) × (a.type_index < b.type_index))
    ⊎ ((a.doc ≡ b.doc) × (a.type_index ≡ b.type_index) × (a.rule < b.rule))

-- the first of the rules that pass is at this place
abbrev pub IsFirstClause : Policies → (Placed → Bool) → Clause → Type 0
IsFirstClause policies test place =
    (c : Placed) × (c.place ≡ place) × StandsIn policies c × (test c ≡ true)
    × ((b : Placed) → StandsIn policies b → IsEarlier b.place place → test b ≡ false)

-- no rule passes
abbrev pub PassesNone : Policies → (Placed → Bool) → Type 0
PassesNone policies test = (c : Placed) → StandsIn policies c → test c ≡ false

-- Denied names the first rule that applies and denies the action
abbrev pub DenialIsFirst : Type 0
DenialIsFirst =
    (policies : Policies) (question : Question) (place : Clause) →
    decision_of policies question ≡ Denied place → IsFirstClause policies (denies question) place

-- Allowed names the first rule that applies and allows the action, and no rule that applies denies
-- it
abbrev pub AllowanceIsFirst : Type 0
AllowanceIsFirst =
    (policies : Policies) (question : Question) (place : Clause) →
    decision_of policies question ≡ Allowed place →
    IsFirstClause policies (allows question) place × PassesNone policies (denies question)

-- NoneAllows comes exactly where no rule that applies denies the action or allows it
abbrev pub NoneIsExact : Type 0
NoneIsExact =
    (policies : Policies) (question : Question) →
    (decision_of policies question ≡ NoneAllows)
    ↔ (PassesNone policies (denies question) × PassesNone policies (allows question))

abbrev pub IsDenied : Decision → Type 0
IsDenied (Denied place) = Unit {0}
IsDenied (Allowed place) = ⊥
IsDenied NoneAllows = ⊥

abbrev pub IsAllowed : Decision → Type 0
IsAllowed (Allowed place) = Unit {0}
IsAllowed (Denied place) = ⊥
IsAllowed NoneAllows = ⊥

-- a policy added anywhere never undoes a denial
abbrev pub DenialStays : Type 0
DenialStays =
    (front back : List Policy) (added : Policy) (question : Question) →
    IsDenied (decision_of (record { docs = front ++ back }) question) →
    IsDenied (decision_of (record { docs = front ++ added ∷ back }) question)

-- nor does a rule added anywhere to a type of a policy
abbrev pub DenialStaysInType : Type 0
DenialStaysInType =
    (front back : List Policy) (policy : Policy) (earlier later : List TypeRules) (t : TypeRules)
    (before after : List Rule) (added : Rule) (question : Question) →
    let with_rules : List Rule → Policies = λ rules.
    let types : List TypeRules = earlier ++ record t { rules = rules } ∷ later in
    record { docs = front ++ record policy { types = types } ∷ back } in
    IsDenied (decision_of (with_rules (before ++ after)) question) →
    IsDenied (decision_of (with_rules (before ++ added ∷ after)) question)

-- a policy whose rules allow nothing
abbrev pub OnlyDenies : Policy → Type 0
OnlyDenies policy = All (λ t. All (λ rule. rule.allow ≡ []) t.rules) policy.types

-- a policy that only denies, added anywhere, never makes an action allowed
abbrev pub DenyingAllowsNothing : Type 0
DenyingAllowsNothing =
    (front back : List Policy) (added : Policy) (question : Question) →
    OnlyDenies added →
    IsAllowed (decision_of (record { docs = front ++ added ∷ back }) question) →
    IsAllowed (decision_of (record { docs = front ++ back }) question)
