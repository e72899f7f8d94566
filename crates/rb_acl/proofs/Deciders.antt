-- The earliest of the places that an index tells is the first clause of all.
use Rattle.std.proofs.Common.{◌≡◌, ◌⊎◌, ℕ, Bool, true, false, ◌&&◌, Option, Some, None, List, [], ◌∷◌, ◌++◌, refl, sym, ap, subst, ◌∙◌}
use Rattle.std.specs.List.{Contains, list_all, find}
use Rattle.std.specs.Option.{option_map}
use Rattle.std.proofs.lemmas.List.Elements.{All-weaker}
use Rattle.std.proofs.lemmas.Bool.{false_from_ne_true}
use Rattle.rb_acl.proofs.Firsts.{is_first, passes_none, names_rule}
use Rattle.rb_acl.proofs.Earliest.{not_earlier, earliest_none, earliest_is}
use Rattle.rb_acl.specs.Applying.{question_of, names_action, listed_actions, test_holds, prop_text, property_text}
use Rattle.rb_acl.specs.Deciding.{Placed, clauses, clause_decides, first_place, allows, decided, decision_of}
use Rattle.rb_acl.specs.Indexing.{RuleIndex, IsIndexOf, StandsFor, is_for, keyed_for, told_for, places_at}
use Rattle.rb_acl.specs.Keys.{the_nodename, the_name}
use Rattle.rb_acl.specs.Laws.{IsEarlier}
use Rattle.rb_acl.specs.Naming.{StandsIn, NamesRule}
use Rattle.rb_acl.specs.Seeking.{rule_in, rule_under, rule_at, answers, place_decides, is_earlier, earlier_clause, earliest}
use Rattle.rb_acl.specs.declared.effect.Effect.{Effect}
use Rattle.rb_acl.specs.declared.effect.Effect.TheVariants.{Deny, Allow}
use Rattle.rb_acl.specs.declared.policy.Decision.TheVariants.{Denied}
use Rattle.rb_acl.specs.declared.policy.Policies.{Policies}
use Rattle.rb_acl.specs.declared.policy.Caller.{Caller}
use Rattle.rb_acl.specs.declared.policy.Context.{Context}
use Rattle.rb_acl.specs.declared.policy.Resource.{Resource}
use Rattle.rb_acl.specs.declared.policy.Clause.{Clause}
use Rattle.rb_acl.specs.declared.keyed.Keyed.{Keyed}
use Rattle.rb_causes.specs.declared.items.Prop.{Prop}

-- the rule that stands at a place
stands_at : (policies : Policies) (c : Placed) → StandsIn policies c
    → rule_at policies c.place ≡ Some c.rule
stands_at policies c (t, doc, kind, rule, name) =
    ap (λ o. rule_under o c.place) doc ∙ ap (λ o. rule_in o c.place.rule) kind ∙ rule

decided_at : (effect : Effect) (policies : Policies) (resource : Resource) (action : List ℕ)
    (c : Placed) → StandsIn policies c
    → place_decides effect policies resource action c.place
    ≡ (names_action (listed_actions effect c.rule) action
    && list_all (test_holds resource) c.rule.tests)
decided_at effect policies resource action c stands =
    ap (answers effect resource action) (stands_at policies c stands)

-- asked, tested and named
all_three : (a b c : Bool) → ((a && b) && c) ≡ true → (a ≡ true) × (b ≡ true) × (c ≡ true)
all_three true true true e = (refl, refl, refl)
all_three true true false e = let never : ⊥ = cc in absurd never
all_three true false c e = let never : ⊥ = cc in absurd never
all_three false b c e = let never : ⊥ = cc in absurd never

of_three : (a b c : Bool) → a ≡ true → (c && b) ≡ true → ((a && b) && c) ≡ true
of_three true true true e f = refl
of_three true true false e f = f
of_three true false true e f = f
of_three true false false e f = f
of_three false b c e f = let never : ⊥ = cc in absurd never

swapped : (b c : Bool) → b ≡ true → c ≡ true → (c && b) ≡ true
swapped b c e f = rw (e, f) refl

-- what decides at a place that is told is a clause that decides
told_decides : (effect : Effect) (policies : Policies) (caller : Caller) (here : Context)
    (resource : Resource) (action : List ℕ) (place : Clause)
    → StandsFor policies caller here resource.type_name place
    → place_decides effect policies resource action place ≡ true
    → (c : Placed) × (c.place ≡ place) × StandsIn policies c
    × (clause_decides effect (question_of caller here resource action) c ≡ true)
told_decides effect policies caller here resource action place (c, at, stands, for) passes = (
  c,
  at,
  stands,
  of_three (is_for caller here resource.type_name c) (list_all (test_holds resource) c.rule.tests)
      (names_action (listed_actions effect c.rule) action) for
      (sym (decided_at effect policies resource action c stands)
      ∙ subst (λ p. place_decides effect policies resource action p ≡ true) (sym at) passes),
)

first_is : (effect : Effect) (policies : Policies) (caller : Caller) (here : Context)
    (resource : Resource) (action : List ℕ) (index : RuleIndex)
    → IsIndexOf policies caller here resource.type_name index → (found : Option Placed)
    → find (clause_decides effect (question_of caller here resource action)) (clauses policies)
    ≡ found
    → earliest (place_decides effect policies resource action) None (told_for index resource)
    ≡ option_map (λ c. c.place) found
first_is effect policies caller here resource action index is None e =
    let test = clause_decides effect (question_of caller here resource action) in
    let none = passes_none policies test e in
    earliest_none (place_decides effect policies resource action) (told_for index resource)
    (All-weaker (StandsFor policies caller here resource.type_name)
    (λ p. place_decides effect policies resource action p ≡ false)
    (λ p for.
    false_from_ne_true (place_decides effect policies resource action p)
    (λ passes.
    let d = told_decides effect policies caller here resource action p for passes in
    let no : test d.0 ≡ false = none d.0 d.2 in
    let so : test d.0 ≡ true = d.3 in
    let clash : true ≡ false = sym so ∙ no in
    let never : ⊥ = cc in never))
    (told_for index resource) (is.only _ _))
first_is effect policies caller here resource action index is (Some c) e =
    let test = clause_decides effect (question_of caller here resource action) in
    let first = is_first policies test c c.place e refl in
    let was = all_three (is_for caller here resource.type_name first.0)
    (list_all (test_holds resource) first.0.rule.tests)
    (names_action (listed_actions effect first.0.rule) action) first.3 in
    let told_it = is.each first.0 resource first.2 was.0 was.1 in
    earliest_is (place_decides effect policies resource action) c.place (told_for index resource)
    (subst (λ p. place_decides effect policies resource action p ≡ true) first.1
    (decided_at effect policies resource action first.0 first.2
    ∙ swapped (list_all (test_holds resource) first.0.rule.tests)
    (names_action (listed_actions effect first.0.rule) action) was.1 was.2))
    (All-weaker (StandsFor policies caller here resource.type_name)
    (λ p. place_decides effect policies resource action p ≡ true
    → (p ≡ c.place) ⊎ (is_earlier c.place p ≡ true))
    (λ p for passes.
    let d = told_decides effect policies caller here resource action p for passes in
    not_earlier p c.place
    (λ earlier_clause.
    let no : test d.0 ≡ false =
    first.4 d.0 d.2 (subst (λ q. IsEarlier q c.place) (sym d.1) earlier_clause) in
    let so : test d.0 ≡ true = d.3 in
    let clash : true ≡ false = sym so ∙ no in
    let never : ⊥ = cc in never))
    (told_for index resource) (is.only _ _))
    (subst (Contains (told_for index resource)) first.1 told_it)

pub told_first : (effect : Effect) (policies : Policies) (caller : Caller) (here : Context)
    (resource : Resource) (action : List ℕ) (index : RuleIndex)
    → IsIndexOf policies caller here resource.type_name index
    → earliest (place_decides effect policies resource action) None (told_for index resource)
    ≡ first_place (clause_decides effect (question_of caller here resource action))
    (clauses policies)
told_first effect policies caller here resource action index is =
    first_is effect policies caller here resource action index is _ refl

-- so what is found there is named
pub told_named : (effect : Effect) (policies : Policies) (caller : Caller) (here : Context)
    (resource : Resource) (action : List ℕ) (index : RuleIndex)
    → IsIndexOf policies caller here resource.type_name index → (r : Option Clause)
    (place : Clause) → r ≡ Some place
    → r ≡ earliest (place_decides effect policies resource action) None (told_for index resource)
    → NamesRule policies place
told_named effect policies caller here resource action index is r place some found =
    names_rule policies (clause_decides effect (question_of caller here resource action)) r place
    some (found ∙ told_first effect policies caller here resource action index is)

-- places one behind the other
pub earliest-append : (test : Clause → Bool) (xs ys : List Clause) (found : Option Clause)
    → earliest test found (xs ++ ys) ≡ earliest test (earliest test found xs) ys
earliest-append test [] ys found = refl
earliest-append test (x ∷ xs) ys found = earliest-append test xs ys (earlier_clause test found x)

-- what is decided by them
pub denied_told : (policies : Policies) (caller : Caller) (here : Context) (resource : Resource)
    (action : List ℕ) (index : RuleIndex)
    → IsIndexOf policies caller here resource.type_name index → (r : Option Clause)
    (place : Clause) → r ≡ Some place
    → r ≡ earliest (place_decides Deny policies resource action) None (told_for index resource)
    → Denied place ≡ decision_of policies (question_of caller here resource action)
denied_told policies caller here resource action index is r place some found =
    let q = question_of caller here resource action in
    ap (λ o. decided o (first_place (allows q) (clauses policies)))
    (sym some ∙ found ∙ told_first Deny policies caller here resource action index is)

pub rest_told : (policies : Policies) (caller : Caller) (here : Context) (resource : Resource)
    (action : List ℕ) (index : RuleIndex)
    → IsIndexOf policies caller here resource.type_name index → (r s : Option Clause)
    → r ≡ None
    → r ≡ earliest (place_decides Deny policies resource action) None (told_for index resource)
    → s ≡ earliest (place_decides Allow policies resource action) None (told_for index resource)
    → decided None s ≡ decision_of policies (question_of caller here resource action)
rest_told policies caller here resource action index is r s none found also =
    let q = question_of caller here resource action in
    ap (λ o. decided None o)
    (also ∙ told_first Allow policies caller here resource action index is)
    ∙ ap (λ o. decided o (first_place (allows q) (clauses policies)))
    (sym none ∙ found ∙ told_first Deny policies caller here resource action index is)

by_nodename : (resource : Resource) → property_text resource the_nodename
    ≡ prop_text resource.props the_nodename
by_nodename resource = refl

by_name : (resource : Resource) → property_text resource the_name
    ≡ prop_text resource.props the_name
by_name resource = refl

-- the earliest of what is found and what stands under the names, first the nodename's
pub keyed_in_turn : (test : Clause → Bool) (resource : Resource) (self index : RuleIndex)
    (props : List Prop) (nodename name : List ℕ) (nodenames names : List Keyed)
    (at_nodename at_name : List Clause) (first second third : Option Clause)
    → self ≡ index → props ≡ resource.props → nodename ≡ prop_text props the_nodename
    → name ≡ prop_text props the_name → nodenames ≡ index.nodenames → names ≡ index.names
    → at_nodename ≡ places_at nodename nodenames → at_name ≡ places_at name names
    → second ≡ earliest test first at_nodename → third ≡ earliest test second at_name
    → third ≡ earliest test first (keyed_for self resource)
keyed_in_turn test resource self index props nodename name nodenames names at_nodename at_name
    first second third same owned node_is name_is first_is second_is under_nodename
    under_name f g =
    let at_node : at_nodename ≡ places_at (property_text resource the_nodename) index.nodenames =
    under_nodename
    ∙ ap (places_at nodename) first_is
    ∙ ap (λ t. places_at t index.nodenames) (node_is ∙ ap (λ ps. prop_text ps the_nodename) owned) in
    let at_its_name : at_name ≡ places_at (property_text resource the_name) index.names =
    under_name
    ∙ ap (places_at name) second_is
    ∙ ap (λ t. places_at t index.names) (name_is ∙ ap (λ ps. prop_text ps the_name) owned) in
    let nodes = places_at (property_text resource the_nodename) index.nodenames in
    let named = places_at (property_text resource the_name) index.names in
    g ∙ ap (earliest test second) at_its_name
    ∙ ap (λ o. earliest test o named) (f ∙ ap (earliest test first) at_node)
    ∙ sym (earliest-append test nodes named first)
    ∙ ap (λ i. earliest test first (keyed_for i resource)) (sym same)

-- the earliest of all that is told, found in the rest and then under the names
pub told_in_turn : (test : Clause → Bool) (resource : Resource) (self index : RuleIndex)
    (rest : List Clause) (first second : Option Clause) → self ≡ index → rest ≡ index.rest
    → first ≡ earliest test None rest → second ≡ earliest test first (keyed_for self resource)
    → second ≡ earliest test None (told_for self resource)
told_in_turn test resource self index rest first second same rest_is e f =
    f ∙ ap (λ o. earliest test o (keyed_for self resource))
    (e ∙ ap (earliest test None) (rest_is ∙ ap (λ i. i.rest) (sym same)))
    ∙ sym (earliest-append test self.rest (keyed_for self resource) None)
