-- What building an index gathers: places of rules that are asked, and all of those whose tests
-- hold.
use Rattle.std.proofs.Common.{◌≡◌, ◌⊎◌, inl, inr, ℕ, ◌+◌, zero, suc, Bool, true, false, cond, bytes_eq, List, [], ◌∷◌, ◌++◌, refl, sym, ap, subst, ◌∙◌, arith}
use Rattle.std.specs.List.{All, Contains, list_all}
use Rattle.std.specs.List.Sorted.{IsPermutation}
use Rattle.std.specs.Cmp.Lexicographic.{bytes_decides}
use Rattle.std.proofs.lemmas.List.Elements.{All-nil, All-cons, All-append, All-push, Contains-append_left, Contains-append_right, Contains-push}
use Rattle.std.proofs.lemmas.List.Sorted.{All-permutation, Contains-permutation}
use Rattle.std.proofs.lemmas.Bool.{and_from, and_parts}
use Rattle.rb_acl.proofs.Members.{Member, member_left, member_right, member_cases}
use Rattle.rb_acl.proofs.Standing.{in_rules, in_types, stands, has}
use Rattle.rb_acl.specs.Applying.{property_text, test_holds, speaks_of}
use Rattle.rb_acl.specs.Deciding.{Placed, placed_rules, placed_types, placed_docs}
use Rattle.rb_acl.specs.Indexing.{RuleIndex, IsIndexOf, StandsFor, is_for, indexed_places, told_for, places_at, with_place, put_rules, put_types, put_docs}
use Rattle.rb_acl.specs.Keys.{the_nodename, the_name, key_in, key_or, index_key}
use Rattle.rb_acl.specs.declared.keys.Key.{Key}
use Rattle.rb_acl.specs.declared.keys.Key.TheVariants.{Nodename, Name, Neither}
use Rattle.rb_acl.specs.declared.keyed.Keyed.{Keyed}
use Rattle.rb_acl.specs.declared.policy.Policies.{Policies}
use Rattle.rb_acl.specs.declared.policy.Policy.{Policy}
use Rattle.rb_acl.specs.declared.policy.TypeRules.{TypeRules}
use Rattle.rb_acl.specs.declared.policy.Rule.{Rule}
use Rattle.rb_acl.specs.declared.policy.Test.{Test}
use Rattle.rb_acl.specs.declared.policy.Test.TheVariants as test
use Rattle.rb_acl.specs.declared.policy.Caller.{Caller}
use Rattle.rb_acl.specs.declared.policy.Context.{Context}
use Rattle.rb_acl.specs.declared.policy.Resource.{Resource}
use Rattle.rb_acl.specs.declared.policy.Clause.{Clause}

abbrev keyed : List ℕ → Clause → Keyed
keyed text place = record { text = text; place = place }

-- each place that the index holds is so
abbrev AllHeld : (Clause → Type 0) → RuleIndex → Type 0
AllHeld P index =
    All P index.rest × All (λ k. P k.place) index.nodenames × All (λ k. P k.place) index.names

put_all : (P : Clause → Type 0) (key : Key) (place : Clause) (index : RuleIndex) → P place
    → AllHeld P index → AllHeld P (with_place key place index)
put_all P (Nodename text) place index one (rest, nodenames, names) =
    (rest, All-push (λ k. P k.place) index.nodenames (keyed text place) nodenames one, names)
put_all P (Name text) place index one (rest, nodenames, names) =
    (rest, nodenames, All-push (λ k. P k.place) index.names (keyed text place) names one)
put_all P Neither place index one (rest, nodenames, names) =
    (All-push P index.rest place rest one, nodenames, names)

rules_all : (P : Clause → Type 0) (owner : Policy) (name : List ℕ) (doc kind n : ℕ)
    (rules : List Rule) (index : RuleIndex)
    → ((c : Placed) → Member c (placed_rules owner name doc kind n rules) → P c.place)
    → AllHeld P index → AllHeld P (put_rules doc kind n rules index)
rules_all P owner name doc kind n [] index each held = held
rules_all P owner name doc kind n (rule ∷ rules) index each held =
    rules_all P owner name doc kind (n + 1) rules _ (λ c m. each c (inr m))
    (put_all P (index_key rule.tests) _ index (each _ (inl refl)) held)

-- where a test chooses between two
either : (P : RuleIndex → Type 0) (b : Bool) (x y : RuleIndex) → (b ≡ true → P x) → P y
    → P (cond b x y)
either P true x y h g = h refl
either P false x y h g = g

chosen : (P : RuleIndex → Type 0) (b : Bool) (x y : RuleIndex) → b ≡ true → P x → P (cond b x y)
chosen P true x y e h = h
chosen P false x y e h = let never : ⊥ = cc in absurd never

types_all : (P : Clause → Type 0) (owner : Policy) (type_name : List ℕ) (doc n : ℕ)
    (ts : List TypeRules) (index : RuleIndex)
    → ((c : Placed) → Member c (placed_types owner doc n ts)
    → bytes_eq c.type_name type_name ≡ true → P c.place)
    → AllHeld P index → AllHeld P (put_types type_name doc n ts index)
types_all P owner type_name doc n [] index each held = held
types_all P owner type_name doc n (t ∷ ts) index each held =
    let front = placed_rules owner t.name doc n 0 t.rules in
    let back = placed_types owner doc (n + 1) ts in
    types_all P owner type_name doc (n + 1) ts _
    (λ c m named. each c (member_right c front back m) named)
    (either (AllHeld P) (bytes_eq t.name type_name) (put_rules doc n 0 t.rules index) index
    (λ same.
    rules_all P owner t.name doc n 0 t.rules index
    (λ c m.
    each c (member_left c front back m)
    (ap (λ x. bytes_eq x type_name) (in_rules owner t.name doc n 0 t.rules c m).named ∙ same)) held)
    held)

docs_all : (P : Clause → Type 0) (caller : Caller) (here : Context) (type_name : List ℕ) (n : ℕ)
    (docs : List Policy) (index : RuleIndex)
    → ((c : Placed) → Member c (placed_docs n docs) → is_for caller here type_name c ≡ true
    → P c.place)
    → AllHeld P index → AllHeld P (put_docs caller here type_name n docs index)
docs_all P caller here type_name n [] index each held = held
docs_all P caller here type_name n (policy ∷ docs) index each held =
    let front = placed_types policy n 0 policy.types in
    let back = placed_docs (n + 1) docs in
    docs_all P caller here type_name (n + 1) docs _
    (λ c m asked. each c (member_right c front back m) asked)
    (either (AllHeld P) (speaks_of policy caller here)
    (put_types type_name n 0 policy.types index) index
    (λ speaks.
    types_all P policy type_name n 0 policy.types index
    (λ c m named.
    each c (member_left c front back m)
    (and_from (speaks_of c.policy caller here) (bytes_eq c.type_name type_name)
    (ap (λ x. speaks_of x caller here) (in_types policy n 0 policy.types c m).owned ∙ speaks)
    named)) held)
    held)

-- the index holds the place for the resource
abbrev Holds : Resource → Clause → RuleIndex → Type 0
Holds resource place index =
    Contains index.rest place
    ⊎ Contains index.nodenames (keyed (property_text resource the_nodename) place)
    ⊎ Contains index.names (keyed (property_text resource the_name) place)

put_keeps : (resource : Resource) (place : Clause) (key : Key) (other : Clause) (index : RuleIndex)
    → Holds resource place index → Holds resource place (with_place key other index)
put_keeps resource place (Nodename text) other index (inl h) = inl h
put_keeps resource place (Nodename text) other index (inr (inl h)) =
    inr (inl (Contains-append_left index.nodenames (keyed text other ∷ []) _ h))
put_keeps resource place (Nodename text) other index (inr (inr h)) = inr (inr h)
put_keeps resource place (Name text) other index (inl h) = inl h
put_keeps resource place (Name text) other index (inr (inl h)) = inr (inl h)
put_keeps resource place (Name text) other index (inr (inr h)) =
    inr (inr (Contains-append_left index.names (keyed text other ∷ []) _ h))
put_keeps resource place Neither other index (inl h) =
    inl (Contains-append_left index.rest (other ∷ []) place h)
put_keeps resource place Neither other index (inr h) = inr h

rules_keep : (resource : Resource) (place : Clause) (doc kind n : ℕ) (rules : List Rule)
    (index : RuleIndex)
    → Holds resource place index → Holds resource place (put_rules doc kind n rules index)
rules_keep resource place doc kind n [] index h = h
rules_keep resource place doc kind n (rule ∷ rules) index h =
    rules_keep resource place doc kind (n + 1) rules _
    (put_keeps resource place (index_key rule.tests) _ index h)

types_keep : (resource : Resource) (place : Clause) (type_name : List ℕ) (doc n : ℕ)
    (ts : List TypeRules) (index : RuleIndex)
    → Holds resource place index → Holds resource place (put_types type_name doc n ts index)
types_keep resource place type_name doc n [] index h = h
types_keep resource place type_name doc n (t ∷ ts) index h =
    types_keep resource place type_name doc (n + 1) ts _
    (either (Holds resource place) (bytes_eq t.name type_name) (put_rules doc n 0 t.rules index)
    index (λ same. rules_keep resource place doc n 0 t.rules index h) h)

docs_keep : (resource : Resource) (place : Clause) (caller : Caller) (here : Context)
    (type_name : List ℕ) (n : ℕ) (docs : List Policy) (index : RuleIndex)
    → Holds resource place index
    → Holds resource place (put_docs caller here type_name n docs index)
docs_keep resource place caller here type_name n [] index h = h
docs_keep resource place caller here type_name n (policy ∷ docs) index h =
    docs_keep resource place caller here type_name (n + 1) docs _
    (either (Holds resource place) (speaks_of policy caller here)
    (put_types type_name n 0 policy.types index) index
    (λ speaks. types_keep resource place type_name n 0 policy.types index h) h)

-- what rules ask for is so where their tests hold
abbrev IsMet : Resource → Key → Type 0
IsMet resource (Nodename text) = property_text resource the_nodename ≡ text
IsMet resource (Name text) = property_text resource the_name ≡ text
IsMet resource Neither = Unit {0}

under_met : (resource : Resource) (key text : List ℕ) (a b : Bool) → bytes_eq key the_nodename ≡ a
    → bytes_eq key the_name ≡ b → property_text resource key ≡ text
    → IsMet resource (cond a (Nodename text) (cond b (Name text) Neither))
under_met resource key text true b e f same =
    ap (property_text resource) (sym ((bytes_decides key the_nodename).0 e)) ∙ same
under_met resource key text false true e f same =
    ap (property_text resource) (sym ((bytes_decides key the_name).0 f)) ∙ same
under_met resource key text false false e f same = tt

test_met : (resource : Resource) (t : Test) → test_holds resource t ≡ true
    → IsMet resource (key_in t)
test_met resource (test.Match key patterns) h = tt
test_met resource (test.Equals key []) h = tt
test_met resource (test.Equals key (text ∷ [])) h =
    under_met resource key text _ _ refl refl
    ((bytes_decides (property_text resource key) text).0
    ((and_parts (bytes_eq (property_text resource key) text) true h).0))
test_met resource (test.Equals key (text ∷ other ∷ texts)) h = tt
test_met resource (test.Contains key texts) h = tt
test_met resource (test.Subset key texts) h = tt

or_met : (resource : Resource) (a b : Key) → IsMet resource a → IsMet resource b
    → IsMet resource (key_or a b)
or_met resource (Nodename text) b h g = h
or_met resource (Name text) b h g = h
or_met resource Neither b h g = g

key_met : (resource : Resource) (tests : List Test) → list_all (test_holds resource) tests ≡ true
    → IsMet resource (index_key tests)
key_met resource [] h = tt
key_met resource (t ∷ ts) h =
    or_met resource (key_in t) (index_key ts)
    (test_met resource t
    ((and_parts (test_holds resource t) (list_all (test_holds resource) ts) h).0))
    (key_met resource ts ((and_parts (test_holds resource t) (list_all (test_holds resource) ts) h).1))

put_holds : (resource : Resource) (place : Clause) (key : Key) (index : RuleIndex)
    → IsMet resource key → Holds resource place (with_place key place index)
put_holds resource place (Nodename text) index met =
    inr (inl (subst (λ t. Contains (index.nodenames ++ keyed text place ∷ []) (keyed t place))
    (sym met) (Contains-push index.nodenames (keyed text place))))
put_holds resource place (Name text) index met =
    inr (inr (subst (λ t. Contains (index.names ++ keyed text place ∷ []) (keyed t place))
    (sym met) (Contains-push index.names (keyed text place))))
put_holds resource place Neither index met = inl (Contains-push index.rest place)

rules_hold : (resource : Resource) (owner : Policy) (name : List ℕ) (doc kind n : ℕ)
    (rules : List Rule) (index : RuleIndex) (c : Placed)
    → Member c (placed_rules owner name doc kind n rules)
    → list_all (test_holds resource) c.rule.tests ≡ true
    → Holds resource c.place (put_rules doc kind n rules index)
rules_hold resource owner name doc kind n [] index c m met = absurd m
rules_hold resource owner name doc kind n (rule ∷ rules) index c (inl e) met =
    let place : Clause = record { doc = doc; type_index = kind; rule = n } in
    subst (λ p. Holds resource p (put_rules doc kind n (rule ∷ rules) index))
    (sym (ap (λ x. x.place) e))
    (rules_keep resource place doc kind (n + 1) rules (with_place (index_key rule.tests) place index)
    (put_holds resource place (index_key rule.tests) index
    (key_met resource rule.tests
    (subst (λ x. list_all (test_holds resource) x.rule.tests ≡ true) e met))))
rules_hold resource owner name doc kind n (rule ∷ rules) index c (inr m) met =
    rules_hold resource owner name doc kind (n + 1) rules _ c m met

types_hold : (resource : Resource) (owner : Policy) (type_name : List ℕ) (doc n : ℕ)
    (ts : List TypeRules) (index : RuleIndex) (c : Placed)
    → Member c (placed_types owner doc n ts) → bytes_eq c.type_name type_name ≡ true
    → list_all (test_holds resource) c.rule.tests ≡ true
    → Holds resource c.place (put_types type_name doc n ts index)
types_hold resource owner type_name doc n [] index c m named met = absurd m
types_hold resource owner type_name doc n (t ∷ ts) index c m named met =
    elim (member_cases c (placed_rules owner t.name doc n 0 t.rules)
    (placed_types owner doc (n + 1) ts) m) [
      | inl l ↦ types_keep resource c.place type_name doc (n + 1) ts _
          (chosen (Holds resource c.place) (bytes_eq t.name type_name)
          (put_rules doc n 0 t.rules index) index
          (ap (λ x. bytes_eq x type_name)
          (sym (in_rules owner t.name doc n 0 t.rules c l).named) ∙ named)
          (rules_hold resource owner t.name doc n 0 t.rules index c l met))
      | inr r ↦ types_hold resource owner type_name doc (n + 1) ts _ c r named met
    ]

docs_hold : (resource : Resource) (caller : Caller) (here : Context) (type_name : List ℕ) (n : ℕ)
    (docs : List Policy) (index : RuleIndex) (c : Placed)
    → Member c (placed_docs n docs) → is_for caller here type_name c ≡ true
    → list_all (test_holds resource) c.rule.tests ≡ true
    → Holds resource c.place (put_docs caller here type_name n docs index)
docs_hold resource caller here type_name n [] index c m asked met = absurd m
docs_hold resource caller here type_name n (policy ∷ docs) index c m asked met =
    elim (member_cases c (placed_types policy n 0 policy.types) (placed_docs (n + 1) docs) m) [
      | inl l ↦ docs_keep resource c.place caller here type_name (n + 1) docs _
          (chosen (Holds resource c.place) (speaks_of policy caller here)
          (put_types type_name n 0 policy.types index) index
          (ap (λ x. speaks_of x caller here) (sym (in_types policy n 0 policy.types c l).owned)
          ∙ (and_parts (speaks_of c.policy caller here) (bytes_eq c.type_name type_name) asked).0)
          (types_hold resource policy type_name n 0 policy.types index c l
          ((and_parts (speaks_of c.policy caller here) (bytes_eq c.type_name type_name) asked).1) met))
      | inr r ↦ docs_hold resource caller here type_name (n + 1) docs _ c r asked met
    ]

-- what is told for a text is held under it
contains_more : (b : Bool) (x p : Clause) (xs : List Clause) → Contains xs p
    → Contains (cond b (x ∷ xs) xs) p
contains_more true x p xs h = Contains-append_right (x ∷ []) xs p h
contains_more false x p xs h = h

contains_here : (b : Bool) (x p : Clause) (xs : List Clause) → b ≡ true → x ≡ p
    → Contains (cond b (x ∷ xs) xs) p
contains_here true x p xs e same = (0, omega arith, same)
contains_here false x p xs e same = let never : ⊥ = cc in absurd never

told_under : (text : List ℕ) (place : Clause) (ks : List Keyed)
    → Contains ks (keyed text place) → Contains (places_at text ks) place
told_under text place [] (k, below, is) = let never : ⊥ = omega (arith, below) in absurd never
told_under text place (x ∷ ks) (zero, below, is) =
    contains_here (bytes_eq x.text text) x.place place (places_at text ks)
    ((bytes_decides x.text text).1 (ap (λ k. k.text) is)) (ap (λ k. k.place) is)
told_under text place (x ∷ ks) (suc k, below, is) =
    contains_more (bytes_eq x.text text) x.place place (places_at text ks)
    (told_under text place ks (k, omega (arith, below), is))

all_if : (P : Clause → Type 0) (b : Bool) (x : Clause) (xs : List Clause) → P x → All P xs
    → All P (cond b (x ∷ xs) xs)
all_if P true x xs one all = All-cons P x xs one all
all_if P false x xs one all = all

all_under : (P : Clause → Type 0) (text : List ℕ) (ks : List Keyed) → All (λ k. P k.place) ks
    → All P (places_at text ks)
all_under P text [] h = All-nil P
all_under P text (k ∷ ks) h =
    all_if P (bytes_eq k.text text) k.place (places_at text ks) (h 0 k (omega arith))
    (all_under P text ks (λ i d below. h (suc i) d (omega (arith, below))))

told_all : (P : Clause → Type 0) (index : RuleIndex) (nodename name : List ℕ) → AllHeld P index
    → All P (indexed_places index nodename name)
told_all P index nodename name (rest, nodenames, names) =
    All-append P index.rest
    (places_at nodename index.nodenames ++ places_at name index.names) rest
    (All-append P (places_at nodename index.nodenames) (places_at name index.names)
    (all_under P nodename index.nodenames nodenames) (all_under P name index.names names))

told_held : (resource : Resource) (place : Clause) (index : RuleIndex) → Holds resource place index
    → Contains (told_for index resource) place
told_held resource place index (inl h) = Contains-append_left index.rest _ place h
told_held resource place index (inr (inl h)) =
    Contains-append_right index.rest _ place
    (Contains-append_left
    (places_at (property_text resource the_nodename) index.nodenames) _ place
    (told_under (property_text resource the_nodename) place index.nodenames h))
told_held resource place index (inr (inr h)) =
    Contains-append_right index.rest _ place
    (Contains-append_right
    (places_at (property_text resource the_nodename) index.nodenames) _ place
    (told_under (property_text resource the_name) place index.names h))

-- to sort them changes nothing of that
sorted_all : (P : Clause → Type 0) (g : RuleIndex) (nodenames names : List Keyed)
    → IsPermutation g.nodenames nodenames → IsPermutation g.names names → AllHeld P g
    → AllHeld P (record { nodenames = nodenames; names = names; rest = g.rest })
sorted_all P g nodenames names p q (rest, by_nodename, by_name) = (
  rest,
  All-permutation (λ k. P k.place) g.nodenames nodenames p by_nodename,
  All-permutation (λ k. P k.place) g.names names q by_name,
)

sorted_holds : (resource : Resource) (place : Clause) (g : RuleIndex)
    (nodenames names : List Keyed) → IsPermutation g.nodenames nodenames
    → IsPermutation g.names names → Holds resource place g
    → Holds resource place (record { nodenames = nodenames; names = names; rest = g.rest })
sorted_holds resource place g nodenames names p q (inl h) = inl h
sorted_holds resource place g nodenames names p q (inr (inl h)) =
    inr (inl (Contains-permutation g.nodenames nodenames _ p h))
sorted_holds resource place g nodenames names p q (inr (inr h)) =
    inr (inr (Contains-permutation g.names names _ q h))

pub built : (policies : Policies) (caller : Caller) (here : Context) (type_name : List ℕ)
    (g : RuleIndex) (nodenames names : List Keyed)
    → g ≡ put_docs caller here type_name 0 policies.docs
    (record { nodenames = []; names = []; rest = [] })
    → IsPermutation g.nodenames nodenames → IsPermutation g.names names
    → IsIndexOf policies caller here type_name
    (record { nodenames = nodenames; names = names; rest = g.rest })
built policies caller here type_name g nodenames names e p q =
    let P = StandsFor policies caller here type_name in
    let empty : RuleIndex = record { nodenames = []; names = []; rest = [] } in
    let made : RuleIndex = record { nodenames = nodenames; names = names; rest = g.rest } in
    record {
      only = λ nodename name.
          told_all P made nodename name
          (sorted_all P g nodenames names p q
          (subst (AllHeld P) (sym e)
          (docs_all P caller here type_name 0 policies.docs empty
          (λ c m asked. (c, refl, stands policies c m, asked))
          (All-nil P, All-nil (λ k. P k.place), All-nil (λ k. P k.place)))));
      each = λ c resource s asked met.
          told_held resource c.place made
          (sorted_holds resource c.place g nodenames names p q
          (subst (Holds resource c.place) (sym e)
          (docs_hold resource caller here type_name 0 policies.docs empty c
          (has policies c s) asked met)));
    }
