-- The flaws of keys and forms are of no pattern.
use Rattle.std.proofs.Common.{◌≡◌, ℕ, Bool, true, false, cond, nat_le, bytes_eq, codes, List, [], ◌∷◌, ◌++◌, Option, Some, None, refl, subst, ◌∙◌}
use Rattle.std.specs.List.{list_all, flat_map}
use Rattle.std.proofs.lemmas.List.Folds.{list_all-append}
use Rattle.std.proofs.lemmas.Bool.{and_from, and_parts}
use Rattle.rb_yaml.specs.Tree.{YamlTree}
use Rattle.rb_acl_doc.specs.declared.fault.AclKind.{AclKind}
use Rattle.rb_acl_doc.specs.declared.fault.AclKind.TheVariants.{MissingContext, MissingBy, MissingFor, UnknownKey, BadPattern, NoAction, BadShape}
use Rattle.rb_acl_doc.specs.Texts.{holds_texts}
use Rattle.rb_values.specs.Values.{Entry, is_text, items_in, entries_in, has_key}
use Rattle.rb_acl_doc.specs.Forms.{Form, Keys, Whole, anything, one_text, texts, in_items, list_of, in_values, any_keys, in_entry, in_map, map_with}
use Rattle.rb_acl_doc.specs.Keys.{has_some_action, an_action, rule_keys, rule_form, is_one_context, one_context, context_keys, context_form, names_somebody, somebody, by_keys, somebody_form, missing, all_parts, document_keys, document_form, flaws_of}
use Rattle.rb_acl_doc.specs.Telling.{kind_rank, sooner, foremost_kind}
use Rattle.rb_acl_doc.specs.Reading.{IsDocFault, is_no_action}

-- not of a pattern
abbrev pub is_structural : AclKind → Bool
is_structural (BadPattern why) = false
is_structural MissingContext = true
is_structural MissingBy = true
is_structural MissingFor = true
is_structural (UnknownKey key) = true
is_structural NoAction = true
is_structural (BadShape key) = true

abbrev Structural : List AclKind → Type 0
Structural flaws = list_all is_structural flaws ≡ true

abbrev IsStructural : Form → Type 0
IsStructural form = (key : List ℕ) (value : YamlTree) → Structural (form key value)

abbrev IsWhole : Whole → Type 0
IsWhole whole = (key : List ℕ) (es : List Entry) → Structural (whole key es)

abbrev AreStructural : Keys → Type 0
AreStructural [] = Unit {0}
AreStructural (row ∷ rows) = IsStructural row.1 × AreStructural rows

joined : (xs ys : List AclKind) → Structural xs → Structural ys → Structural (xs ++ ys)
joined xs ys h g =
    list_all-append is_structural xs ys
    ∙ and_from (list_all is_structural xs) (list_all is_structural ys) h g

one_by : (b : Bool) (kind : AclKind) → is_structural kind ≡ true
    → Structural (cond b [] (kind ∷ []))
one_by true kind h = refl
one_by false kind h = and_from (is_structural kind) true h refl

mapped : {A : Type 0} (F : A → List AclKind) → ((x : A) → Structural (F x)) → (xs : List A)
    → Structural (flat_map F xs)
mapped F h [] = refl
mapped F h (x ∷ xs) = joined (F x) (flat_map F xs) (h x) (mapped F h xs)

listed : (form : Form) → IsStructural form → IsStructural (list_of form)
listed form h key value = by_items (items_in value)
  where
    by_items : (items : Option (List YamlTree)) → Structural (in_items form key items)
    by_items None = refl
    by_items (Some items) = mapped (form key) (h key) items

valued : (form : Form) → IsStructural form → IsStructural (any_keys form)
valued form h key value = by_entries (entries_in value)
  where
    by_entries : (es : Option (List Entry)) → Structural (in_values form key es)
    by_entries None = refl
    by_entries (Some es) = mapped (λ e. form e.0 e.1) (λ e. h e.0 e.1) es

entry_by : (b : Bool) (xs ys : List AclKind) → Structural xs → Structural ys
    → Structural (cond b xs ys)
entry_by true xs ys h g = h
entry_by false xs ys h g = g

in_keys : (keys : Keys) → AreStructural keys → (e : Entry) → Structural (in_entry keys e)
in_keys [] h e = refl
in_keys (row ∷ rows) h e =
    entry_by (bytes_eq e.0 row.0) (row.1 e.0 e.1) (in_entry rows e) (h.0 e.0 e.1)
    (in_keys rows h.1 e)

keyed : (keys : Keys) (whole : Whole) → AreStructural keys → IsWhole whole
    → IsStructural (map_with keys whole)
keyed keys whole h g key value = by_entries (entries_in value)
  where
    by_entries : (es : Option (List Entry)) → Structural (in_map keys whole key es)
    by_entries None = refl
    by_entries (Some es) =
        joined (flat_map (in_entry keys) es) (whole key es) (mapped (in_entry keys)
        (in_keys keys h) es)
        (g key es)

any_value : IsStructural anything
any_value key value = refl

a_text : IsStructural one_text
a_text key value = one_by (is_text value) (BadShape key) refl

some_texts : IsStructural texts
some_texts key value = one_by (holds_texts value) (BadShape key) refl

a_rule : IsStructural rule_form
a_rule = keyed rule_keys an_action (
  some_texts,
  (
    some_texts,
    (
      valued texts some_texts,
      (
        valued texts some_texts,
        (valued texts some_texts, (valued texts some_texts, tt)),
      ),
    ),
  ),
) (λ key es. one_by (has_some_action es) NoAction refl)

a_context : IsStructural context_form
a_context = keyed context_keys one_context (a_text, (a_text, tt))
    (λ key es. one_by (is_one_context es) (BadShape key) refl)

a_by : IsStructural somebody_form
a_by = keyed by_keys somebody (some_texts, (some_texts, tt))
    (λ key es. one_by (names_somebody es) (BadShape key) refl)

parts : IsWhole all_parts
parts key es =
    joined (missing (codes "context") MissingContext es) _
    (one_by (has_key es (codes "context")) MissingContext refl)
    (joined (missing (codes "by") MissingBy es) (missing (codes "for") MissingFor es)
    (one_by (has_key es (codes "by")) MissingBy refl)
    (one_by (has_key es (codes "for")) MissingFor refl))

a_document : IsStructural document_form
a_document = keyed document_keys all_parts (
  any_value,
  (
    a_context,
    (
      valued (list_of rule_form) (listed rule_form a_rule),
      (a_by, tt),
    ),
  ),
) parts

-- the flaw that is told is one of them
sooner_by : (first : Bool) (a b kind : AclKind) → cond first (Some a) (Some b) ≡ Some kind
    → is_structural a ≡ true → is_structural b ≡ true → is_structural kind ≡ true
sooner_by true a b kind e h g = let same : a ≡ kind = cc in subst (λ k. is_structural k
    ≡ true) same h
sooner_by false a b kind e h g = let same : b ≡ kind = cc in subst (λ k. is_structural k
    ≡ true) same g

told_by : (a : AclKind) (rest : Option AclKind) (kind : AclKind) → sooner (Some a) rest ≡ Some kind
    → is_structural a ≡ true → ((b : AclKind) → rest ≡ Some b → is_structural b ≡ true)
    → is_structural kind ≡ true
told_by a None kind e h g = let same : a ≡ kind = cc in subst (λ k. is_structural k ≡ true) same h
told_by a (Some b) kind e h g =
    sooner_by (nat_le (kind_rank a) (kind_rank b)) a b kind e h (g b refl)

told_in : (flaws : List AclKind) (kind : AclKind) → foremost_kind flaws ≡ Some kind
    → Structural flaws → is_structural kind ≡ true
told_in [] kind e h = let never : None ≡ Some kind = e in cc
told_in (a ∷ flaws) kind e h =
    let parts = and_parts (is_structural a) (list_all is_structural flaws) h in
    told_by a (foremost_kind flaws) kind e parts.0 (λ b is. told_in flaws b is parts.1)

-- so it is the document's fault, unless patterns come before it
pub flaw_is_fault : (doc : YamlTree) (kind : AclKind) → foremost_kind (flaws_of doc) ≡ Some kind
    → is_no_action kind ≡ false → IsDocFault doc kind
flaw_is_fault doc MissingContext e other = e
flaw_is_fault doc MissingBy e other = e
flaw_is_fault doc MissingFor e other = e
flaw_is_fault doc (UnknownKey key) e other = e
flaw_is_fault doc (BadShape key) e other = e
flaw_is_fault doc NoAction e other = let never : true ≡ false = other in cc
flaw_is_fault doc (BadPattern why) e other =
    let never : false ≡ true =
    told_in (flaws_of doc) (BadPattern why) e (a_document (codes "document") doc) in cc

pub is_that : (flaw : Option AclKind) (kind : AclKind) → flaw ≡ Some kind → is_no_action kind ≡ true
    → flaw ≡ Some NoAction
is_that flaw NoAction e h = e
is_that flaw (BadPattern why) e h = let never : false ≡ true = h in cc
is_that flaw MissingContext e h = let never : false ≡ true = h in cc
is_that flaw MissingBy e h = let never : false ≡ true = h in cc
is_that flaw MissingFor e h = let never : false ≡ true = h in cc
is_that flaw (UnknownKey key) e h = let never : false ≡ true = h in cc
is_that flaw (BadShape key) e h = let never : false ≡ true = h in cc
