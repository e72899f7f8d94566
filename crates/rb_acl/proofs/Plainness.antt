-- A rule of policies without patterns has none.
use Rattle.std.proofs.Common.{◌≡◌, ℕ, zero, suc, Bool, true, ◌&&◌, Option, Some, None, List, [], ◌∷◌, refl, subst}
use Rattle.std.specs.List.{list_all, slice_get}
use Rattle.std.proofs.lemmas.Bool.{and_parts}
use Rattle.rb_acl.specs.Plain.{is_plain_rule, is_plain_rules, is_plain_policy, is_plain_scope, is_plain_by, are_plain}
use Rattle.rb_acl.specs.Seeking.{rule_at, rule_under, rule_in}
use Rattle.rb_acl.specs.declared.policy.Policies.{Policies}
use Rattle.rb_acl.specs.declared.policy.Policy.{Policy}
use Rattle.rb_acl.specs.declared.policy.TypeRules.{TypeRules}
use Rattle.rb_acl.specs.declared.policy.Rule.{Rule}
use Rattle.rb_acl.specs.declared.policy.Clause.{Clause}

-- what holds of all holds of one
all_got : {X : Type 0} (p : X → Bool) (xs : List X) (i : ℕ) (x : X) → list_all p xs ≡ true
    → slice_get xs i ≡ Some x → p x ≡ true
all_got p [] i x h e = let never : ⊥ = cc in absurd never
all_got p (y ∷ ys) zero x h e =
    let same : y ≡ x = cc in
    subst (λ z. p z ≡ true) same ((and_parts (p y) (list_all p ys) h).0)
all_got p (y ∷ ys) (suc i) x h e = all_got p ys i x ((and_parts (p y) (list_all p ys) h).1) e

in_type : (t : Option TypeRules) (n : ℕ) (rule : Rule)
    → ((x : TypeRules) → t ≡ Some x → is_plain_rules x ≡ true) → rule_in t n ≡ Some rule
    → is_plain_rule rule ≡ true
in_type None n rule h e = let never : ⊥ = cc in absurd never
in_type (Some t) n rule h e = all_got is_plain_rule t.rules n rule (h t refl) e

in_policy : (p : Option Policy) (place : Clause) (rule : Rule)
    → ((x : Policy) → p ≡ Some x → is_plain_policy x ≡ true) → rule_under p place ≡ Some rule
    → is_plain_rule rule ≡ true
in_policy None place rule h e = let never : ⊥ = cc in absurd never
in_policy (Some policy) place rule h e =
    in_type (slice_get policy.types place.type_index) place.rule rule
    (λ t got.
    all_got is_plain_rules policy.types place.type_index t
    ((and_parts (is_plain_scope policy.scope && list_all is_plain_by policy.by)
    (list_all is_plain_rules policy.types) (h policy refl)).1) got) e

pub plain_at : (policies : Policies) (place : Clause) (rule : Rule) → are_plain policies ≡ true
    → rule_at policies place ≡ Some rule → is_plain_rule rule ≡ true
plain_at policies place rule plain e =
    in_policy (slice_get policies.docs place.doc) place rule
    (λ policy got. all_got is_plain_policy policies.docs place.doc policy plain got) e
