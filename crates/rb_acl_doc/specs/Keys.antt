-- The keys of a policy document, with the form of each.
use Rattle.std.specs.Prelude.{Bool, not, ◌&&◌, ◌||◌, List, [], ◌∷◌, ◌++◌, ℕ, codes, if◌then◌else◌}
use Rattle.std.specs.List.{list_any}
use Rattle.rb_causes.specs.Texts.{is_empty}
use Rattle.rb_yaml.specs.Tree.{YamlTree}
use Rattle.rb_acl_doc.specs.Texts.{texts_at}
use Rattle.rb_values.specs.Values.{Entry, has_key}
use Rattle.rb_acl_doc.specs.Forms.{Form, Keys, Whole, anything, one_text, texts, list_of, any_keys, map_with}
use Rattle.rb_acl_doc.specs.declared.fault.AclKind.{AclKind}
use Rattle.rb_acl_doc.specs.declared.fault.AclKind.TheVariants.{MissingContext, MissingBy, MissingFor, NoAction, BadShape}

-- one of the texts is not empty
abbrev pub has_filled : List (List ℕ) → Bool
has_filled actions = list_any (λ action. not (is_empty action)) actions

-- the rule names an action that is not empty
abbrev pub has_some_action : List Entry → Bool
has_some_action entries = has_filled (texts_at entries (codes "allow"))
    || has_filled (texts_at entries (codes "deny"))

abbrev pub an_action : Whole
an_action key entries = if has_some_action entries then [] else NoAction ∷ []

abbrev pub rule_keys : Keys
rule_keys =
    (codes "allow", texts)
    ∷ (codes "deny", texts)
    ∷ (codes "match", any_keys texts)
    ∷ (codes "equals", any_keys texts)
    ∷ (codes "contains", any_keys texts)
    ∷ (codes "subset", any_keys texts)
    ∷ []

abbrev pub rule_form : Form
rule_form = map_with rule_keys an_action

-- a project or the application, and not both
abbrev pub is_one_context : List Entry → Bool
is_one_context entries =
    (has_key entries (codes "project") || has_key entries (codes "application"))
    && not (has_key entries (codes "project") && has_key entries (codes "application"))

abbrev pub one_context : Whole
one_context key entries = if is_one_context entries then [] else BadShape key ∷ []

abbrev pub context_keys : Keys
context_keys = (codes "project", one_text) ∷ (codes "application", one_text) ∷ []

abbrev pub context_form : Form
context_form = map_with context_keys one_context

-- users, groups or both
abbrev pub names_somebody : List Entry → Bool
names_somebody entries = has_key entries (codes "username") || has_key entries (codes "group")

abbrev pub somebody : Whole
somebody key entries = if names_somebody entries then [] else BadShape key ∷ []

abbrev pub by_keys : Keys
by_keys = (codes "username", texts) ∷ (codes "group", texts) ∷ []

abbrev pub somebody_form : Form
somebody_form = map_with by_keys somebody

-- this kind of flaw, where the key is missing
abbrev pub missing : List ℕ → AclKind → List Entry → List AclKind
missing key kind entries = if has_key entries key then [] else kind ∷ []

abbrev pub all_parts : Whole
all_parts key entries = missing (codes "context") MissingContext entries
    ++ (missing (codes "by") MissingBy entries ++ missing (codes "for") MissingFor entries)

abbrev pub document_keys : Keys
document_keys =
    (codes "description", anything)
    ∷ (codes "context", context_form)
    ∷ (codes "for", any_keys (list_of rule_form))
    ∷ (codes "by", somebody_form)
    ∷ []

abbrev pub document_form : Form
document_form = map_with document_keys all_parts

-- all flaws of a document, but for patterns that are refused
abbrev pub flaws_of : YamlTree → List AclKind
flaws_of doc = document_form (codes "document") doc
