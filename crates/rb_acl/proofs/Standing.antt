-- The clauses of policies are the rules that stand in them, in the order of their places.
use Rattle.std.proofs.Common.{◌≡◌, ◌<◌, inl, inr, ℕ, zero, suc, ◌+◌, List, [], ◌∷◌, Some, refl, sym, ap, subst, ◌∙◌, arith}
use Rattle.std.specs.List.{slice_get}
use Rattle.rb_acl.specs.Deciding.{Placed, placed_rules, placed_types, placed_docs, clauses}
use Rattle.rb_acl.specs.Naming.{StandsIn}
use Rattle.rb_acl.specs.Laws.{IsEarlier}
use Rattle.rb_acl.specs.declared.policy.Policies.{Policies}
use Rattle.rb_acl.specs.declared.policy.Policy.{Policy}
use Rattle.rb_acl.specs.declared.policy.TypeRules.{TypeRules}
use Rattle.rb_acl.specs.declared.policy.Rule.{Rule}
use Rattle.rb_acl.specs.declared.policy.Clause.{Clause}
use Rattle.rb_acl.proofs.Members.{Member, member_left, member_right, member_cases, IsSorted, sorted-append}

-- where a clause of the rules of one type stands, these numbered from n
pub record InRules (owner : Policy) (name : List ℕ) (d t n : ℕ) (rules : List Rule)
    (c : Placed) : Type 0 where
  pub at : ℕ
  pub doc : c.place.doc ≡ d
  pub type_index : c.place.type_index ≡ t
  pub number : c.place.rule ≡ n + at
  pub got : slice_get rules at ≡ Some c.rule
  pub owned : c.policy ≡ owner
  pub named : c.type_name ≡ name

pub record InTypes (owner : Policy) (d n : ℕ) (ts : List TypeRules) (c : Placed) : Type 0 where
  pub at : ℕ
  pub kind : TypeRules
  pub doc : c.place.doc ≡ d
  pub number : c.place.type_index ≡ n + at
  pub got : slice_get ts at ≡ Some kind
  pub ruled : slice_get kind.rules c.place.rule ≡ Some c.rule
  pub owned : c.policy ≡ owner
  pub named : c.type_name ≡ kind.name

pub record InDocs (n : ℕ) (docs : List Policy) (c : Placed) : Type 0 where
  pub at : ℕ
  pub kind : TypeRules
  pub number : c.place.doc ≡ n + at
  pub got : slice_get docs at ≡ Some c.policy
  pub typed : slice_get c.policy.types c.place.type_index ≡ Some kind
  pub ruled : slice_get kind.rules c.place.rule ≡ Some c.rule
  pub named : c.type_name ≡ kind.name

-- a member stands at its place
pub in_rules : (owner : Policy) (name : List ℕ) (d t n : ℕ) (rules : List Rule) (c : Placed)
    → Member c (placed_rules owner name d t n rules) → InRules owner name d t n rules c
in_rules owner name d t n [] c m = absurd m
in_rules owner name d t n (rule ∷ rules) c (inl e) = record {
  at = 0;
  doc = ap (λ x. x.place.doc) e;
  type_index = ap (λ x. x.place.type_index) e;
  number = ap (λ x. x.place.rule) e ∙ omega arith;
  got = ap (λ x. Some x.rule) (sym e);
  owned = ap (λ x. x.policy) e;
  named = ap (λ x. x.type_name) e;
}
in_rules owner name d t n (rule ∷ rules) c (inr m) =
    let h = in_rules owner name d t (n + 1) rules c m in
    record {
      at = suc h.at;
      doc = h.doc;
      type_index = h.type_index;
      number = h.number ∙ omega arith;
      got = h.got;
      owned = h.owned;
      named = h.named;
    }

pub in_types : (owner : Policy) (d n : ℕ) (ts : List TypeRules) (c : Placed)
    → Member c (placed_types owner d n ts) → InTypes owner d n ts c
in_types owner d n [] c m = absurd m
in_types owner d n (t ∷ ts) c m =
    elim (member_cases c (placed_rules owner t.name d n 0 t.rules)
    (placed_types owner d (n + 1) ts) m) [
      | inl l ↦
          let h = in_rules owner t.name d n 0 t.rules c l in
          record {
            at = 0;
            kind = t;
            doc = h.doc;
            number = h.type_index ∙ omega arith;
            got = refl;
            ruled = let e : c.place.rule ≡ h.at = h.number ∙ omega arith in
                subst (λ k. slice_get t.rules k ≡ Some c.rule) (sym e) h.got;
            owned = h.owned;
            named = h.named;
          }
      | inr r ↦
          let h = in_types owner d (n + 1) ts c r in
          record {
            at = suc h.at;
            kind = h.kind;
            doc = h.doc;
            number = h.number ∙ omega arith;
            got = h.got;
            ruled = h.ruled;
            owned = h.owned;
            named = h.named;
          }
    ]

pub in_docs : (n : ℕ) (docs : List Policy) (c : Placed) → Member c (placed_docs n docs)
    → InDocs n docs c
in_docs n [] c m = absurd m
in_docs n (policy ∷ policies) c m =
    elim (member_cases c (placed_types policy n 0 policy.types) (placed_docs (n + 1) policies) m) [
      | inl l ↦
          let h = in_types policy n 0 policy.types c l in
          record {
            at = 0;
            kind = h.kind;
            number = h.doc ∙ omega arith;
            got = ap Some (sym h.owned);
            typed =
                let e : c.place.type_index ≡ h.at = h.number ∙ omega arith in
                subst (λ k. slice_get c.policy.types k ≡ Some h.kind) (sym e)
                (subst (λ p. slice_get p.types h.at ≡ Some h.kind) (sym h.owned) h.got);
            ruled = h.ruled;
            named = h.named;
          }
      | inr r ↦
          let h = in_docs (n + 1) policies c r in
          record {
            at = suc h.at;
            kind = h.kind;
            number = h.number ∙ omega arith;
            got = h.got;
            typed = h.typed;
            ruled = h.ruled;
            named = h.named;
          }
    ]

abbrev placed : ℕ → ℕ → ℕ → Policy → List ℕ → Rule → Placed
placed doc kind number owner name rule =
    record {
      place = record { doc = doc; type_index = kind; rule = number };
      policy = owner;
      type_name = name;
      rule = rule;
    }

same_placed : (a b : Placed) → a.place.doc ≡ b.place.doc → a.place.type_index ≡ b.place.type_index
    → a.place.rule ≡ b.place.rule → a.policy ≡ b.policy → a.type_name ≡ b.type_name → a.rule
    ≡ b.rule → a ≡ b
same_placed a b doc kind number owned named rule =
    ap (λ x. placed x a.place.type_index a.place.rule a.policy a.type_name a.rule) doc
    ∙ ap (λ x. placed b.place.doc x a.place.rule a.policy a.type_name a.rule) kind
    ∙ ap (λ x. placed b.place.doc b.place.type_index x a.policy a.type_name a.rule) number
    ∙ ap (λ x. placed b.place.doc b.place.type_index b.place.rule x a.type_name a.rule) owned
    ∙ ap (λ x. placed b.place.doc b.place.type_index b.place.rule b.policy x a.rule) named
    ∙ ap (λ x. placed b.place.doc b.place.type_index b.place.rule b.policy b.type_name x) rule

-- and what stands there is a member
pub rules_have : (owner : Policy) (name : List ℕ) (d t n : ℕ) (rules : List Rule) (c : Placed)
    (k : ℕ) →
    c.place.doc ≡ d → c.place.type_index ≡ t → c.place.rule ≡ n + k → slice_get rules k
    ≡ Some c.rule → c.policy ≡ owner → c.type_name ≡ name →
    Member c (placed_rules owner name d t n rules)
rules_have owner name d t n [] c k doc kind number got owned named = let never : ⊥ = cc in
    absurd never
rules_have owner name d t n (rule ∷ rules) c zero doc kind number got owned named =
    inl (same_placed c
    (record {
      place = record { doc = d; type_index = t; rule = n };
      policy = owner;
      type_name =
          name;
      rule = rule;
    }) doc kind (number ∙ omega arith) owned named cc)
rules_have owner name d t n (rule ∷ rules) c (suc k) doc kind number got owned named =
    inr (rules_have owner name d t (n + 1) rules c k doc kind
    (number ∙ omega arith) got owned named)

pub types_have : (owner : Policy) (d n : ℕ) (ts : List TypeRules) (c : Placed) (k : ℕ)
    (t : TypeRules) →
    c.place.doc ≡ d → c.place.type_index ≡ n + k → slice_get ts k ≡ Some t
    → slice_get t.rules c.place.rule ≡ Some c.rule → c.policy ≡ owner → c.type_name ≡ t.name →
    Member c (placed_types owner d n ts)
types_have owner d n [] c k t doc number got ruled owned named = let never : ⊥ = cc in absurd never
types_have owner d n (x ∷ ts) c zero t doc number got ruled owned named =
    let same : x ≡ t = cc in
    member_left c (placed_rules owner x.name d n 0 x.rules) (placed_types owner d (n + 1) ts)
    (rules_have owner x.name d n 0 x.rules c c.place.rule doc (number ∙ omega arith) (omega arith)
    (subst (λ y. slice_get y.rules c.place.rule ≡ Some c.rule) (sym same) ruled) owned
    (named ∙ ap (λ y. y.name) (sym same)))
types_have owner d n (x ∷ ts) c (suc k) t doc number got ruled owned named =
    member_right c (placed_rules owner x.name d n 0 x.rules) (placed_types owner d (n + 1) ts)
    (types_have owner d (n + 1) ts c k t doc (number ∙ omega arith) got ruled owned named)

pub docs_have : (n : ℕ) (docs : List Policy) (c : Placed) (k : ℕ) (t : TypeRules) →
    c.place.doc ≡ n + k → slice_get docs k ≡ Some c.policy
    → slice_get c.policy.types c.place.type_index ≡ Some t → slice_get t.rules c.place.rule
    ≡ Some c.rule → c.type_name ≡ t.name →
    Member c (placed_docs n docs)
docs_have n [] c k t number got typed ruled named = let never : ⊥ = cc in absurd never
docs_have n (x ∷ docs) c zero t number got typed ruled named =
    let same : c.policy ≡ x = cc in
    member_left c (placed_types x n 0 x.types) (placed_docs (n + 1) docs)
    (types_have x n 0 x.types c c.place.type_index t (number ∙ omega arith) (omega arith)
    (subst (λ y. slice_get y.types c.place.type_index ≡ Some t) same typed) ruled same named)
docs_have n (x ∷ docs) c (suc k) t number got typed ruled named =
    member_right c (placed_types x n 0 x.types) (placed_docs (n + 1) docs)
    (docs_have (n + 1) docs c k t (number ∙ omega arith) got typed ruled named)

pub stands : (policies : Policies) (c : Placed) → Member c (clauses policies) → StandsIn policies c
stands policies c m =
    let h = in_docs 0 policies.docs c m in
    let e : c.place.doc ≡ h.at = h.number ∙ omega arith in (
      h.kind,
      subst (λ k. slice_get policies.docs k ≡ Some c.policy)
          (sym e) h.got,
      h.typed,
      h.ruled,
      h.named,
    )

pub has : (policies : Policies) (c : Placed) → StandsIn policies c → Member c (clauses policies)
has policies c s = docs_have 0 policies.docs c c.place.doc s.0 (omega arith) s.1 s.2 s.3 s.4

-- places that are not earlier
later_rule : (b a : Clause) → b.doc ≡ a.doc → b.type_index ≡ a.type_index → a.rule < b.rule
    → IsEarlier b a → ⊥
later_rule b a doc kind rule (inl h) = omega arith
later_rule b a doc kind rule (inr (inl h)) = omega arith
later_rule b a doc kind rule (inr (inr h)) = omega arith

later_type : (b a : Clause) → b.doc ≡ a.doc → a.type_index < b.type_index → IsEarlier b a → ⊥
later_type b a doc kind (inl h) = omega arith
later_type b a doc kind (inr (inl h)) = omega arith
later_type b a doc kind (inr (inr h)) = omega arith

later_doc : (b a : Clause) → a.doc < b.doc → IsEarlier b a → ⊥
later_doc b a doc (inl h) = omega arith
later_doc b a doc (inr (inl h)) = omega arith
later_doc b a doc (inr (inr h)) = omega arith

-- the clauses are in the order of their places
pub sorted_rules : (owner : Policy) (name : List ℕ) (d t n : ℕ) (rules : List Rule)
    → IsSorted (placed_rules owner name d t n rules)
sorted_rules owner name d t n [] = tt
sorted_rules owner name d t n (rule ∷ rules) = (
  λ b m. let h = in_rules owner name d t (n + 1) rules b m in
      later_rule b.place (record { doc = d; type_index = t; rule = n }) h.doc h.type_index
      (omega (arith, h.number)),
  sorted_rules owner name d t (n + 1) rules,
)

pub sorted_types : (owner : Policy) (d n : ℕ) (ts : List TypeRules)
    → IsSorted (placed_types owner d n ts)
sorted_types owner d n [] = tt
sorted_types owner d n (t ∷ ts) =
    sorted-append (placed_rules owner t.name d n 0 t.rules) (placed_types owner d (n + 1) ts)
    (sorted_rules owner t.name d n 0 t.rules) (sorted_types owner d (n + 1) ts)
    (λ a b m k.
    let h = in_rules owner t.name d n 0 t.rules a m in
    let g = in_types owner d (n + 1) ts b k in
    later_type b.place a.place (g.doc ∙ sym h.doc) (omega (arith, g.number, h.type_index)))

pub sorted_docs : (n : ℕ) (docs : List Policy) → IsSorted (placed_docs n docs)
sorted_docs n [] = tt
sorted_docs n (x ∷ docs) =
    sorted-append (placed_types x n 0 x.types) (placed_docs (n + 1) docs)
    (sorted_types x n 0 x.types) (sorted_docs (n + 1) docs)
    (λ a b m k.
    let h = in_types x n 0 x.types a m in
    let g = in_docs (n + 1) docs b k in
    later_doc b.place a.place (omega (arith, g.number, h.doc)))
