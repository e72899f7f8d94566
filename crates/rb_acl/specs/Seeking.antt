-- The first of some places whose rule decides.
use Rattle.std.specs.Prelude.{List, [], ◌∷◌, ℕ, Bool, true, false, ◌&&◌, ◌||◌, nat_eq, nat_lt, Option, Some, None, slice_get, if◌then◌else◌}
use Rattle.std.specs.List.{list_all}
use Rattle.rb_acl.specs.Applying.{names_action, listed_actions, test_holds}
use Rattle.rb_acl.specs.declared.effect.Effect.{Effect}
use Rattle.rb_acl.specs.declared.policy.Policies.{Policies}
use Rattle.rb_acl.specs.declared.policy.Policy.{Policy}
use Rattle.rb_acl.specs.declared.policy.TypeRules.{TypeRules}
use Rattle.rb_acl.specs.declared.policy.Rule.{Rule}
use Rattle.rb_acl.specs.declared.policy.Resource.{Resource}
use Rattle.rb_acl.specs.declared.policy.Clause.{Clause}

-- the rule at a place
abbrev pub rule_in : Option TypeRules → ℕ → Option Rule
rule_in None n = None
rule_in (Some t) n = slice_get t.rules n

abbrev pub rule_under : Option Policy → Clause → Option Rule
rule_under None place = None
rule_under (Some policy) place = rule_in (slice_get policy.types place.type_index) place.rule

abbrev pub rule_at : Policies → Clause → Option Rule
rule_at policies place = rule_under (slice_get policies.docs place.doc) place

-- it names the action, and its tests hold
abbrev pub answers : Effect → Resource → List ℕ → Option Rule → Bool
answers effect resource action None = false
answers effect resource action (Some rule) =
    names_action (listed_actions effect rule) action
    && list_all (test_holds resource) rule.tests

abbrev pub place_decides : Effect → Policies → Resource → List ℕ → Clause → Bool
place_decides effect policies resource action place =
    answers effect resource action (rule_at policies place)

-- an earlier document, or an earlier type of the same one, or an earlier rule of the same type
abbrev pub is_earlier : Clause → Clause → Bool
is_earlier a b =
    nat_lt a.doc b.doc
    || (nat_eq a.doc b.doc
    && (nat_lt a.type_index b.type_index
    || (nat_eq a.type_index b.type_index && nat_lt a.rule b.rule)))

-- nothing is found yet, or something later
abbrev pub comes_before_found : Clause → Option Clause → Bool
comes_before_found place None = true
comes_before_found place (Some found) = is_earlier place found

-- the earlier of what is found and this place, where it passes
abbrev pub earlier_clause : (Clause → Bool) → Option Clause → Clause → Option Clause
earlier_clause test found place =
    if comes_before_found place found && test place then Some place else found

-- the earliest of what is found and those of the places that pass
abbrev pub earliest : (Clause → Bool) → Option Clause → List Clause → Option Clause
earliest test found [] = found
earliest test found (place ∷ places) = earliest test (earlier_clause test found place) places
