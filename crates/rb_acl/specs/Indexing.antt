-- Which rules an index for one caller, context and type of resources has to tell.
use Rattle.std.specs.Prelude.{◌≡◌, List, [], ◌∷◌, ◌++◌, ℕ, ◌+◌, Bool, true, ◌&&◌, All, Contains, bytes_eq, if◌then◌else◌}
use Rattle.std.specs.List.{list_all}
use Rattle.std.specs.Cmp.Lexicographic.{slice_cmp}
use Rattle.std.specs.Ordering.{nat_cmp}
use Rattle.std.specs.List.Sorted.{IsSortedByKey}
use Rattle.rb_acl.specs.Applying.{speaks_of, property_text, test_holds}
use Rattle.rb_acl.specs.Deciding.{Placed}
use Rattle.rb_acl.specs.Keys.{the_nodename, the_name, index_key}
use Rattle.rb_acl.specs.Naming.{StandsIn}
use Rattle.rb_acl.specs.declared.policy.Policies.{Policies}
use Rattle.rb_acl.specs.declared.policy.Policy.{Policy}
use Rattle.rb_acl.specs.declared.policy.TypeRules.{TypeRules}
use Rattle.rb_acl.specs.declared.policy.Rule.{Rule}
use Rattle.rb_acl.specs.declared.policy.Caller.{Caller}
use Rattle.rb_acl.specs.declared.policy.Context.{Context}
use Rattle.rb_acl.specs.declared.policy.Resource.{Resource}
use Rattle.rb_acl.specs.declared.policy.Clause.{Clause}
use Rattle.rb_acl.specs.declared.keys.Key.{Key}
use Rattle.rb_acl.specs.declared.keys.Key.TheVariants.{Nodename, Name, Neither}
use Rattle.rb_acl.specs.declared.keyed.Keyed.{Keyed}
use Rattle.rb_acl.specs.declared.rule_index.RuleIndex.{RuleIndex as Held}

-- what an index holds: the places of rules that ask for one nodename, of others that ask for one
-- name, and of all others
abbrev pub RuleIndex : Type 0
RuleIndex = Held

-- ascending by text
abbrev pub IsByText : List Keyed → Type 0
IsByText ks = IsSortedByKey (λ k. k.text) (slice_cmp nat_cmp) ks

-- the places under this text
abbrev pub places_at : List ℕ → List Keyed → List Clause
places_at text [] = []
places_at text (k ∷ ks) =
    if bytes_eq k.text text then k.place ∷ places_at text ks else places_at text ks

-- the places that it keeps under this nodename and this name
abbrev pub keyed_places : RuleIndex → List ℕ → List ℕ → List Clause
keyed_places index nodename name =
    places_at nodename index.nodenames ++ places_at name index.names

-- the places that it tells for a resource of this nodename and name
abbrev pub indexed_places : RuleIndex → List ℕ → List ℕ → List Clause
indexed_places index nodename name = index.rest ++ keyed_places index nodename name

-- the places that it keeps under a resource's names
abbrev pub keyed_for : RuleIndex → Resource → List Clause
keyed_for index resource =
    keyed_places index (property_text resource the_nodename) (property_text resource the_name)

-- the places that it tells for a resource
abbrev pub told_for : RuleIndex → Resource → List Clause
told_for index resource =
    indexed_places index (property_text resource the_nodename) (property_text resource the_name)

-- the rule's policy speaks of the caller in this context, and it is for this type of resources
abbrev pub is_for : Caller → Context → List ℕ → Placed → Bool
is_for caller here type_name c =
    speaks_of c.policy caller here && bytes_eq c.type_name type_name

-- a rule for them stands at this place
abbrev pub StandsFor : Policies → Caller → Context → List ℕ → Clause → Type 0
StandsFor policies caller here type_name place =
    (c : Placed) × (c.place ≡ place) × StandsIn policies c
    × (is_for caller here type_name c ≡ true)

-- an index of these policies for this caller, context and type: only places of rules for them, and
-- those of all whose tests hold for the resource
pub record IsIndexOf (policies : Policies) (caller : Caller) (here : Context)
    (type_name : List ℕ) (index : RuleIndex) : Type 0 where
  pub only : (nodename name : List ℕ)
      → All (StandsFor policies caller here type_name) (indexed_places index nodename name)
  pub each : (c : Placed) (resource : Resource) → StandsIn policies c
      → is_for caller here type_name c ≡ true
      → list_all (test_holds resource) c.rule.tests ≡ true
      → Contains (told_for index resource) c.place

-- an index with one more place, under what the rule asks for
abbrev pub with_place : Key → Clause → RuleIndex → RuleIndex
with_place (Nodename text) place index =
    record index {
      nodenames = index.nodenames ++ record { text = text; place = place } ∷ [];
    }
with_place (Name text) place index =
    record index { names = index.names ++ record { text = text; place = place } ∷ [] }
with_place Neither place index = record index { rest = index.rest ++ place ∷ [] }

-- with those of the rules of one type, numbered from n
abbrev pub put_rules : ℕ → ℕ → ℕ → List Rule → RuleIndex → RuleIndex
put_rules doc type_index n [] index = index
put_rules doc type_index n (rule ∷ rules) index =
    put_rules doc type_index (n + 1) rules
    (with_place (index_key rule.tests)
    (record { doc = doc; type_index = type_index; rule = n }) index)

-- with those of the types of this name in one document, the types numbered from n
abbrev pub put_types : List ℕ → ℕ → ℕ → List TypeRules → RuleIndex → RuleIndex
put_types type_name doc n [] index = index
put_types type_name doc n (t ∷ ts) index =
    put_types type_name doc (n + 1) ts
    (if bytes_eq t.name type_name then put_rules doc n 0 t.rules index else index)

-- with those of all documents that speak of the caller, numbered from n
abbrev pub put_docs : Caller → Context → List ℕ → ℕ → List Policy → RuleIndex → RuleIndex
put_docs caller here type_name n [] index = index
put_docs caller here type_name n (policy ∷ policies) index =
    put_docs caller here type_name (n + 1) policies
    (if speaks_of policy caller here then put_types type_name n 0 policy.types index else index)
