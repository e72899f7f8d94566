-- The policy of a document, and its flaws, are those of the document without lines.
use Rattle.std.proofs.Common.{◌≡◌, ◌∙◌, ℕ, cond, not, ◌&&◌, ◌||◌, List, [], ◌∷◌, ◌++◌, map, codes, bytes_eq, Option, Some, None, option_map, unwrap_or, refl, ap}
use Rattle.std.specs.List.{flat_map, list_all}
use Rattle.rb_text.specs.Values.{value_of}
use Rattle.rb_yaml.specs.Tree.{YamlTree, scalar, seq, mapping}
use Rattle.rb_values.specs.Values.{Entry, tree_list, entry_list, is_text, scalar_or_empty, sequence_items, map_entries, value_at, has_key, entries_at}
use Rattle.rb_acl.specs.declared.policy.Scope.TheVariants.{Project, Application}
use Rattle.rb_acl.specs.declared.policy.Test.TheVariants as test
use Rattle.rb_acl_doc.specs.Texts.{holds_texts, texts_in, texts_in_value, texts_at, text_or_empty}
use Rattle.rb_acl_doc.specs.Forms.{Form, Keys, Whole, anything, one_text, texts, list_of, any_keys, in_entry, in_map, map_with}
use Rattle.rb_acl_doc.specs.Keys.{has_filled, has_some_action, an_action, rule_keys, rule_form, is_one_context, one_context, context_keys, context_form, somebody, by_keys, somebody_form, missing, all_parts, document_keys, document_form, flaws_of}
use Rattle.rb_acl_doc.specs.Policies.{scope_of, somebody_named, names_in, by_of, kind_of_test, test_of, tests_by, tests_in, rule_with, rule_of, type_of, policy_with, policy_of}
use Rattle.rb_acl_doc.specs.declared.fault.AclKind.{AclKind}
use Rattle.rb_acl_doc.specs.declared.fault.AclKind.TheVariants.{MissingContext, MissingBy, MissingFor, NoAction, BadShape}
use Rattle.rb_acl_doc.specs.declared.test_kind.TestKind.{TestKind}
use Rattle.rb_acl_doc.specs.declared.test_kind.TestKind.TheVariants as kind
use Rattle.rb_canon_laws.specs.Trees.{lineless}
use Rattle.rb_export_laws.proofs.Lines.{flat_same, map_same, all_same, entry_lineless, tree_list_lineless, entry_list_lineless, is_text_lineless, scalar_lineless, sequence_items_lineless, map_entries_lineless, value_at_lineless, has_key_lineless, text_at_lineless, entries_at_lineless}
use Rattle.rb_export_laws.proofs.PolicyTrees.{rule_same, policy_made}

-- ---- what is read

pub texts_in_value_lineless : (t : YamlTree) → texts_in_value (lineless t) ≡ texts_in_value t
texts_in_value_lineless (scalar line text) = refl
texts_in_value_lineless (seq line items) =
    ap (map scalar_or_empty) (tree_list_lineless items)
    ∙ map_same scalar_or_empty lineless scalar_or_empty scalar_lineless (tree_list items)
texts_in_value_lineless (mapping line entries) = refl

texts_in_lineless : (o : Option YamlTree) → texts_in (option_map lineless o) ≡ texts_in o
texts_in_lineless None = refl
texts_in_lineless (Some t) = texts_in_value_lineless t

pub texts_at_lineless : (es : List Entry) (key : List ℕ)
    → texts_at (map entry_lineless es) key ≡ texts_at es key
texts_at_lineless es key =
    ap texts_in (value_at_lineless es key) ∙ texts_in_lineless (value_at es key)

text_or_empty_lineless : (es : List Entry) (key : List ℕ)
    → text_or_empty (map entry_lineless es) key ≡ text_or_empty es key
text_or_empty_lineless es key = ap (λ o. unwrap_or o []) (text_at_lineless es key)

scope_lineless : (es : List Entry) → scope_of (map entry_lineless es) ≡ scope_of es
scope_lineless es =
    ap (λ b. cond b (Project (value_of (text_or_empty (map entry_lineless es) (codes "project"))))
    (Application (value_of (text_or_empty (map entry_lineless es) (codes "application")))))
    (has_key_lineless es (codes "project"))
    ∙ ap (λ t. cond (has_key es (codes "project")) (Project (value_of t))
    (Application (value_of (text_or_empty (map entry_lineless es) (codes "application")))))
    (text_or_empty_lineless es (codes "project"))
    ∙ ap (λ t. cond (has_key es (codes "project"))
    (Project (value_of (text_or_empty es (codes "project")))) (Application (value_of t)))
    (text_or_empty_lineless es (codes "application"))

names_lineless : (e : Entry) → names_in (entry_lineless e) ≡ names_in e
names_lineless e = ap (map (somebody_named e.0)) (texts_in_value_lineless e.1)

by_lineless : (es : List Entry) → by_of (map entry_lineless es) ≡ by_of es
by_lineless es = flat_same names_in entry_lineless names_in names_lineless es

test_lineless : (which : TestKind) (e : Entry) → test_of which (entry_lineless e) ≡ test_of which e
test_lineless kind.Match e = ap (test.Match e.0) (texts_in_value_lineless e.1)
test_lineless kind.Equals e = ap (test.Equals e.0) (texts_in_value_lineless e.1)
test_lineless kind.Contains e = ap (test.Contains e.0) (texts_in_value_lineless e.1)
test_lineless kind.Subset e = ap (test.Subset e.0) (texts_in_value_lineless e.1)

tests_by_lineless : (which : Option TestKind) (es : List Entry)
    → tests_by which (map entry_lineless es) ≡ tests_by which es
tests_by_lineless None es = refl
tests_by_lineless (Some which) es =
    map_same (test_of which) entry_lineless (test_of which) (test_lineless which) es

tests_lineless : (e : Entry) → tests_in (entry_lineless e) ≡ tests_in e
tests_lineless e =
    ap (tests_by (kind_of_test e.0)) (map_entries_lineless e.1)
    ∙ tests_by_lineless (kind_of_test e.0) (map_entries e.1)

rule_with_lineless : (es : List Entry) → rule_with (map entry_lineless es) ≡ rule_with es
rule_with_lineless es =
    rule_same (texts_at_lineless es (codes "allow")) (texts_at_lineless es (codes "deny"))
    (flat_same tests_in entry_lineless tests_in tests_lineless es)

rule_lineless : (t : YamlTree) → rule_of (lineless t) ≡ rule_of t
rule_lineless t = ap rule_with (map_entries_lineless t) ∙ rule_with_lineless (map_entries t)

type_lineless : (e : Entry) → type_of (entry_lineless e) ≡ type_of e
type_lineless e =
    ap (λ rules. record { name = e.0; rules = rules })
    (ap (map rule_of) (sequence_items_lineless e.1)
    ∙ map_same rule_of lineless rule_of rule_lineless (sequence_items e.1))

policy_with_lineless : (file : List ℕ) (place : ℕ) (es : List Entry)
    → policy_with file place (map entry_lineless es) ≡ policy_with file place es
policy_with_lineless file place es =
    ap (λ s. policy_made file place s
    (by_of (entries_at (map entry_lineless es) (codes "by")))
    (map type_of (entries_at (map entry_lineless es) (codes "for"))))
    (ap scope_of (entries_at_lineless es (codes "context"))
    ∙ scope_lineless (entries_at es (codes "context")))
    ∙ ap (λ bs. policy_made file place (scope_of (entries_at es (codes "context"))) bs
    (map type_of (entries_at (map entry_lineless es) (codes "for"))))
    (ap by_of (entries_at_lineless es (codes "by")) ∙ by_lineless (entries_at es (codes "by")))
    ∙ ap (λ ts. policy_made file place (scope_of (entries_at es (codes "context")))
    (by_of (entries_at es (codes "by"))) ts)
    (ap (map type_of) (entries_at_lineless es (codes "for"))
    ∙ map_same type_of entry_lineless type_of type_lineless (entries_at es (codes "for")))

pub policy_lineless : (file : List ℕ) (place : ℕ) (t : YamlTree)
    → policy_of file place (lineless t) ≡ policy_of file place t
policy_lineless file place t =
    ap (policy_with file place) (map_entries_lineless t)
    ∙ policy_with_lineless file place (map_entries t)

-- ---- flaws

-- the form does not look at lines
abbrev Ignores : Form → Type 0
Ignores form = (key : List ℕ) (t : YamlTree) → form key (lineless t) ≡ form key t

abbrev WholeIgnores : Whole → Type 0
WholeIgnores whole = (key : List ℕ) (es : List Entry) →
    whole key (map entry_lineless es) ≡ whole key es

abbrev KeysIgnore : Keys → Type 0
KeysIgnore [] = Unit {0}
KeysIgnore (row ∷ rows) = Ignores row.1 × KeysIgnore rows

anything_ignores : Ignores anything
anything_ignores key t = refl

one_text_ignores : Ignores one_text
one_text_ignores key t = ap (λ b. cond b [] (BadShape key ∷ [])) (is_text_lineless t)

holds_lineless : (t : YamlTree) → holds_texts (lineless t) ≡ holds_texts t
holds_lineless (scalar line text) = refl
holds_lineless (seq line items) =
    ap (list_all is_text) (tree_list_lineless items)
    ∙ all_same is_text lineless is_text is_text_lineless (tree_list items)
holds_lineless (mapping line entries) = refl

texts_ignores : Ignores texts
texts_ignores key t = ap (λ b. cond b [] (BadShape key ∷ [])) (holds_lineless t)

list_ignores : (form : Form) → Ignores form → Ignores (list_of form)
list_ignores form h key (scalar line text) = refl
list_ignores form h key (seq line items) =
    ap (flat_map (form key)) (tree_list_lineless items)
    ∙ flat_same (form key) lineless (form key) (h key) (tree_list items)
list_ignores form h key (mapping line entries) = refl

any_ignores : (form : Form) → Ignores form → Ignores (any_keys form)
any_ignores form h key (scalar line text) = refl
any_ignores form h key (seq line items) = refl
any_ignores form h key (mapping line entries) =
    ap (flat_map (λ e. form e.0 e.1)) (entry_list_lineless entries)
    ∙ flat_same (λ e. form e.0 e.1) entry_lineless (λ e. form e.0 e.1) (λ e. h e.0 e.1)
    (entry_list entries)

in_entry_ignores : (keys : Keys) → KeysIgnore keys → (e : Entry)
    → in_entry keys (entry_lineless e) ≡ in_entry keys e
in_entry_ignores [] h e = refl
in_entry_ignores (row ∷ rows) h e =
    ap (λ x. cond (bytes_eq e.0 row.0) x (in_entry rows (entry_lineless e))) (h.0 e.0 e.1)
    ∙ ap (λ x. cond (bytes_eq e.0 row.0) (row.1 e.0 e.1) x) (in_entry_ignores rows h.1 e)

in_map_ignores : (keys : Keys) (whole : Whole) → KeysIgnore keys → WholeIgnores whole
    → (key : List ℕ) (es : List Entry)
    → in_map keys whole key (Some (map entry_lineless es)) ≡ in_map keys whole key (Some es)
in_map_ignores keys whole h g key es =
    ap (λ x. x ++ whole key (map entry_lineless es))
    (flat_same (in_entry keys) entry_lineless (in_entry keys) (in_entry_ignores keys h) es)
    ∙ ap (λ x. flat_map (in_entry keys) es ++ x) (g key es)

map_ignores : (keys : Keys) (whole : Whole) → KeysIgnore keys → WholeIgnores whole
    → Ignores (map_with keys whole)
map_ignores keys whole h g key (scalar line text) = refl
map_ignores keys whole h g key (seq line items) = refl
map_ignores keys whole h g key (mapping line entries) =
    ap (λ es. in_map keys whole key (Some es)) (entry_list_lineless entries)
    ∙ in_map_ignores keys whole h g key (entry_list entries)

pub actions_lineless : (es : List Entry)
    → has_some_action (map entry_lineless es) ≡ has_some_action es
actions_lineless es =
    ap (λ ts. has_filled ts || has_filled (texts_at (map entry_lineless es) (codes "deny")))
    (texts_at_lineless es (codes "allow"))
    ∙ ap (λ ts. has_filled (texts_at es (codes "allow")) || has_filled ts)
    (texts_at_lineless es (codes "deny"))

action_ignores : WholeIgnores an_action
action_ignores key es = ap (λ b. cond b [] (NoAction ∷ [])) (actions_lineless es)

rule_ignores : Ignores rule_form
rule_ignores =
    map_ignores rule_keys an_action (
      texts_ignores,
      (
        texts_ignores,
        (
          any_ignores texts texts_ignores,
          (
            any_ignores texts texts_ignores,
            (any_ignores texts texts_ignores, (any_ignores texts texts_ignores, tt)),
          ),
        ),
      ),
    )
    action_ignores

either_lineless : (es : List Entry) (a b : List ℕ)
    → (has_key (map entry_lineless es) a || has_key (map entry_lineless es) b)
    ≡ (has_key es a || has_key es b)
either_lineless es a b =
    ap (λ x. x || has_key (map entry_lineless es) b) (has_key_lineless es a)
    ∙ ap (λ x. has_key es a || x) (has_key_lineless es b)

both_lineless : (es : List Entry) (a b : List ℕ)
    → (has_key (map entry_lineless es) a && has_key (map entry_lineless es) b)
    ≡ (has_key es a && has_key es b)
both_lineless es a b =
    ap (λ x. x && has_key (map entry_lineless es) b) (has_key_lineless es a)
    ∙ ap (λ x. has_key es a && x) (has_key_lineless es b)

one_lineless : (es : List Entry) → is_one_context (map entry_lineless es) ≡ is_one_context es
one_lineless es =
    ap (λ x. x && not (has_key (map entry_lineless es) (codes "project")
    && has_key (map entry_lineless es) (codes "application")))
    (either_lineless es (codes "project") (codes "application"))
    ∙ ap (λ x. (has_key es (codes "project") || has_key es (codes "application")) && not x)
    (both_lineless es (codes "project") (codes "application"))

context_whole_ignores : WholeIgnores one_context
context_whole_ignores key es = ap (λ b. cond b [] (BadShape key ∷ [])) (one_lineless es)

context_ignores : Ignores context_form
context_ignores =
    map_ignores context_keys one_context (one_text_ignores, (one_text_ignores, tt))
    context_whole_ignores

somebody_whole_ignores : WholeIgnores somebody
somebody_whole_ignores key es =
    ap (λ b. cond b [] (BadShape key ∷ []))
    (either_lineless es (codes "username") (codes "group"))

somebody_ignores : Ignores somebody_form
somebody_ignores =
    map_ignores by_keys somebody (texts_ignores, (texts_ignores, tt)) somebody_whole_ignores

missing_ignores : (key : List ℕ) (which : AclKind) (es : List Entry)
    → missing key which (map entry_lineless es) ≡ missing key which es
missing_ignores key which es = ap (λ b. cond b [] (which ∷ [])) (has_key_lineless es key)

parts_ignores : WholeIgnores all_parts
parts_ignores key es =
    ap (λ x. x ++ (missing (codes "by") MissingBy (map entry_lineless es)
    ++ missing (codes "for") MissingFor (map entry_lineless es)))
    (missing_ignores (codes "context") MissingContext es)
    ∙ ap (λ x. missing (codes "context") MissingContext es
    ++ (x ++ missing (codes "for") MissingFor (map entry_lineless es)))
    (missing_ignores (codes "by") MissingBy es)
    ∙ ap (λ x. missing (codes "context") MissingContext es
    ++ (missing (codes "by") MissingBy es ++ x)) (missing_ignores (codes "for") MissingFor es)

document_ignores : Ignores document_form
document_ignores =
    map_ignores document_keys all_parts (
      anything_ignores,
      (
        context_ignores,
        (
          any_ignores (list_of rule_form) (list_ignores rule_form rule_ignores),
          (somebody_ignores, tt),
        ),
      ),
    ) parts_ignores

pub flaws_lineless : (t : YamlTree) → flaws_of (lineless t) ≡ flaws_of t
flaws_lineless t = document_ignores (codes "document") t
