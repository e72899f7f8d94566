-- Policies that are read again.
use Rattle.std.proofs.Common.{◌≡◌, ◌∙◌, ℕ, ◌+◌, Bool, true, false, cond, List, [], ◌∷◌, ◌++◌, map, codes, bytes_eq, None, refl, ap, sym, subst}
use Rattle.std.specs.List.{AllByRecursion as Each}
use Rattle.rb_text.specs.Values.{is_plain, value_of, text_of}
use Rattle.rb_text.specs.declared.value.Value.TheVariants.{Plain, Pattern}
use Rattle.rb_yaml.specs.Tree.{YamlTree}
use Rattle.rb_values.specs.Values.{Entry, has_key, map_entries, entries_at}
use Rattle.rb_acl.specs.declared.policy.ByRule.TheVariants.{User, Group}
use Rattle.rb_acl.specs.declared.policy.Scope.TheVariants.{Project, Application}
use Rattle.rb_acl_doc.specs.Texts.{texts_in_value, text_or_empty}
use Rattle.rb_acl_doc.specs.Keys.{flaws_of}
use Rattle.rb_acl_doc.specs.Patterns.{patterns_of, ArePatterns}
use Rattle.rb_acl_doc.specs.Policies.{somebody_named, names_in, by_of, policy_of, policies_from}
use Rattle.rb_acl_doc.specs.Reading.{IsSoundDoc, AreSound}
use Rattle.rb_acl_doc.specs.Telling.{foremost_kind}
use Rattle.rb_acl_doc.specs.declared.fault.AclKind.{AclKind}
use Rattle.rb_canon.specs.Layout.{canon_docs_of}
use Rattle.rb_canon_laws.specs.Trees.{lineless, tree_of}
use Rattle.rb_export.specs.Policies.{policy_value}
use Rattle.rb_export_laws.proofs.PolicyTrees.{IsReadValue, IsReadScope, IsReadBy, IsReadPolicy, policy_read}
use Rattle.rb_export_laws.proofs.PolicyLines.{policy_lineless, flaws_lineless}
use Rattle.rb_export_laws.proofs.PolicyFlaws.{policy_passes, policy_acts}

-- ---- what a policy that was read holds

text_by : (b : Bool) (t : List ℕ) → text_of (cond b (Plain t) (Pattern t)) ≡ t
text_by true t = refl
text_by false t = refl

value_read : (t : List ℕ) → IsReadValue (value_of t)
value_read t = ap value_of (text_by (is_plain t) t)

scope_by : (b : Bool) (p a : List ℕ)
    → IsReadScope (cond b (Project (value_of p)) (Application (value_of a)))
scope_by true p a = value_read p
scope_by false p a = value_read a

somebody_read : (b : Bool) (t : List ℕ) → IsReadBy (cond b (User (value_of t)) (Group (value_of t)))
somebody_read true t = value_read t
somebody_read false t = value_read t

each_joined : {A : Type 0} (P : A → Type 0) (xs ys : List A) → Each P xs → Each P ys
    → Each P (xs ++ ys)
each_joined P [] ys h g = g
each_joined P (x ∷ xs) ys h g = (h.0, each_joined P xs ys h.1 g)

names_are_read : (key : List ℕ) (ts : List (List ℕ)) → Each IsReadBy (map (somebody_named key) ts)
names_are_read key [] = tt
names_are_read key (t ∷ ts) =
    (somebody_read (bytes_eq key (codes "username")) t, names_are_read key ts)

by_is_read : (es : List Entry) → Each IsReadBy (by_of es)
by_is_read [] = tt
by_is_read (e ∷ es) =
    each_joined IsReadBy (names_in e) (by_of es) (names_are_read e.0 (texts_in_value e.1))
    (by_is_read es)

read_policy : (file : List ℕ) (place : ℕ) (doc : YamlTree)
    → IsReadPolicy (policy_of file place doc)
read_policy file place doc =
    let es = map_entries doc in
    let context = entries_at es (codes "context") in
    record {
      scope = scope_by (has_key context (codes "project"))
          (text_or_empty context (codes "project")) (text_or_empty context (codes "application"));
      by = by_is_read (entries_at es (codes "by"));
    }

-- ---- one document

-- no flaw is told only where there is none
abbrev pub NoneTold : Type 0
NoneTold = (flaws : List AclKind) → foremost_kind flaws ≡ None → flaws ≡ []

-- the document has the shape of the policy that the other is
abbrev IsOf : List ℕ → ℕ → YamlTree → YamlTree → Type 0
IsOf file place doc again = lineless again ≡ tree_of (policy_value (policy_of file place doc))

policy_again : (file : List ℕ) (place : ℕ) (doc again : YamlTree) → IsOf file place doc again
    → (other : List ℕ) (n : ℕ) → policy_of other n again ≡ policy_of other n doc
policy_again file place doc again shape other n =
    sym (policy_lineless other n again)
    ∙ ap (policy_of other n) shape
    ∙ policy_read other n (policy_of file place doc) (read_policy file place doc)

flawless_again : NoneTold → (file : List ℕ) (place : ℕ) (doc again : YamlTree)
    → IsOf file place doc again
    → foremost_kind (flaws_of doc) ≡ None → foremost_kind (flaws_of again) ≡ None
flawless_again no_flaw file place doc again shape sound =
    ap foremost_kind (sym (flaws_lineless again) ∙ ap flaws_of shape
    ∙ policy_passes (policy_of file place doc)
    (policy_acts file place doc (no_flaw (flaws_of doc) sound)))

sound_again : NoneTold → (file : List ℕ) (place : ℕ) (doc again : YamlTree)
    → IsOf file place doc again → IsSoundDoc doc → IsSoundDoc again
sound_again no_flaw file place doc again shape sound = record {
  flawless = flawless_again no_flaw file place doc again shape sound.flawless;
  read = subst (λ p. ArePatterns (patterns_of p))
      (sym (policy_again file place doc again shape [] 0)) sound.read;
}

-- ---- all documents

-- documents of the shapes of the policies that others are
abbrev pub AreOf : List ℕ → ℕ → List YamlTree → List YamlTree → Type 0
AreOf file place docs again =
    map lineless again ≡ map tree_of (map policy_value (policies_from file place docs))

first_same : {A : Type 0} (x y : A) (xs ys : List A) → x ∷ xs ≡ y ∷ ys → x ≡ y
first_same x y xs ys h = cc

rest_same : {A : Type 0} (x y : A) (xs ys : List A) → x ∷ xs ≡ y ∷ ys → xs ≡ ys
rest_same x y xs ys h = cc

pub all_sound : NoneTold → (file : List ℕ) (place : ℕ) (docs again : List YamlTree)
    → AreOf file place docs again → AreSound docs → AreSound again
all_sound no_flaw file place [] [] shapes sound = tt
all_sound no_flaw file place [] (t ∷ ts) shapes sound = let never : ⊥ = cc in absurd never
all_sound no_flaw file place (d ∷ ds) [] shapes sound = let never : ⊥ = cc in absurd never
all_sound no_flaw file place (d ∷ ds) (t ∷ ts) shapes sound = (
  sound_again no_flaw file place d t (first_same _ _ _ _ shapes) sound.0,
  all_sound no_flaw file (place + 1) ds ts (rest_same _ _ _ _ shapes) sound.1,
)

pub all_same : (file : List ℕ) (place : ℕ) (docs again : List YamlTree)
    → AreOf file place docs again
    → (other : List ℕ) (n : ℕ) → policies_from other n again ≡ policies_from other n docs
all_same file place [] [] shapes other n = refl
all_same file place [] (t ∷ ts) shapes other n = let never : ⊥ = cc in absurd never
all_same file place (d ∷ ds) [] shapes other n = let never : ⊥ = cc in absurd never
all_same file place (d ∷ ds) (t ∷ ts) shapes other n =
    ap (λ p. p ∷ policies_from other (n + 1) ts)
    (policy_again file place d t (first_same _ _ _ _ shapes) other n)
    ∙ ap (λ ps. policy_of other n d ∷ ps)
    (all_same file (place + 1) ds ts (rest_same _ _ _ _ shapes) other (n + 1))

-- a policy is written the same whatever its file and its place
one_value : (file other : List ℕ) (m n : ℕ) (docs : List YamlTree)
    → map policy_value (policies_from other n docs) ≡ map policy_value (policies_from file m docs)
one_value file other m n [] = refl
one_value file other m n (d ∷ ds) =
    ap (λ vs. policy_value (policy_of file m d) ∷ vs) (one_value file other (m + 1) (n + 1) ds)

pub one_text_again : (file other : List ℕ) (docs again : List YamlTree) → AreOf file 1 docs again
    → canon_docs_of (map policy_value (policies_from other 1 again))
    ≡ canon_docs_of (map policy_value (policies_from file 1 docs))
one_text_again file other docs again shapes =
    ap (λ ps. canon_docs_of (map policy_value ps)) (all_same file 1 docs again shapes other 1)
    ∙ ap canon_docs_of (one_value file other 1 1 docs)
