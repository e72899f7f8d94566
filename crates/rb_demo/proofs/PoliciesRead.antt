-- The policies' text is written out, so that its reading computes. No document of it has a flaw or
-- a pattern.
use Rattle.std.proofs.Common.{◌≡◌, ℕ, List, [], ◌∷◌, None, Some, Ok, Err, Result, refl, sym, ap, subst, ◌∙◌}
use Rattle.std.specs.List.{AllByRecursion as Each}
use Rattle.rb_yaml.specs.Tree.{YamlTree}
use Rattle.rb_yaml.specs.Documents.{docs_of}
use Rattle.rb_yaml_laws.proofs.RowFacts.{each_right}
use Rattle.rb_acl.specs.declared.policy.Policy.{Policy}
use Rattle.rb_acl_doc.specs.Keys.{flaws_of}
use Rattle.rb_acl_doc.specs.Telling.{foremost_kind}
use Rattle.rb_acl_doc.specs.Patterns.{ArePatterns, HasRefused}
use Rattle.rb_acl_doc.specs.Reading.{AreSound, IsDocFault, RefusesDocs, patterns_in}
use Rattle.rb_acl_doc.specs.declared.fault.AclKind.{AclKind}
use Rattle.rb_acl_doc.specs.declared.fault.AclKind.TheVariants.{MissingContext, MissingBy, MissingFor, UnknownKey, BadPattern, NoAction, BadShape}
use Rattle.rb_acl_doc.specs.declared.fault.AclErr.TheVariants as acl_err
use Rattle.rb_acl_doc.specs.declared.fault.AclFault.{AclFault}
use Rattle.rb_log.specs.Readings.{MayReadPolicies, policies_of}
use Rattle.rb_log.specs.World.{read_or}
use Rattle.rb_demo.specs.Texts.{policy_text}
use Rattle.rb_demo.specs.Read.{demo_policies}
use Rattle.rb_demo.specs.Laws.{PoliciesAreRead}
use Rattle.rb_demo.proofs.Computing.{computing}

abbrev pub policy_docs : List YamlTree
policy_docs = read_or [] (docs_of policy_text)

policy_text_read : docs_of policy_text ≡ Ok policy_docs
unfolding computing
policy_text_read = refl

-- a document without a flaw and without a pattern
abbrev IsClean : YamlTree → Type 0
IsClean doc = (foremost_kind (flaws_of doc) ≡ None) × (patterns_in doc ≡ [])

are_clean : Each IsClean policy_docs
unfolding computing
are_clean = ((refl, refl), ((refl, refl), tt))

pub policies_are : (file : List ℕ) → policies_of file policy_docs ≡ demo_policies file
unfolding computing
policies_are file = refl

clean_sound : (docs : List YamlTree) → Each IsClean docs → AreSound docs
clean_sound [] h = tt
clean_sound (doc ∷ docs) h = (
  record { flawless = h.0.0; read = subst ArePatterns (sym h.0.1) tt },
  clean_sound docs h.1,
)

flawless_has_none : (doc : YamlTree) (kind : AclKind) → foremost_kind (flaws_of doc) ≡ None
    → foremost_kind (flaws_of doc) ≡ Some kind → ⊥
flawless_has_none doc kind h e = cc

clean_has_none : (doc : YamlTree) (kind : AclKind) → IsClean doc → IsDocFault doc kind → ⊥
clean_has_none doc (BadPattern why) h f = subst (HasRefused why) h.1 f.1
clean_has_none doc NoAction h f = flawless_has_none doc NoAction h.0 f.0
clean_has_none doc MissingContext h f = flawless_has_none doc MissingContext h.0 f
clean_has_none doc MissingBy h f = flawless_has_none doc MissingBy h.0 f
clean_has_none doc MissingFor h f = flawless_has_none doc MissingFor h.0 f
clean_has_none doc (UnknownKey key) h f = flawless_has_none doc (UnknownKey key) h.0 f
clean_has_none doc (BadShape key) h f = flawless_has_none doc (BadShape key) h.0 f

not_refused : (docs : List YamlTree) (fault : AclFault) → Each IsClean docs
    → RefusesDocs docs (acl_err.Fault fault) → ⊥
not_refused docs fault h r =
    clean_has_none r.doc fault.kind
    (each_right IsClean r.before (r.doc ∷ r.behind) (subst (Each IsClean) r.given h)).0 r.fault.1

policies_answered : (file : List ℕ) (answer : Result (List Policy) AclFault)
    → MayReadPolicies file policy_docs answer → answer ≡ Ok (demo_policies file)
policies_answered file (Ok policies) h = ap Ok (h.0 ∙ policies_are file)
policies_answered file (Err fault) h = absurd (not_refused policy_docs fault are_clean h)

pub policies_read : PoliciesAreRead
policies_read = (
  policy_docs,
  policy_text_read,
  λ file answer. (
    policies_answered file answer,
    λ e.
        subst (MayReadPolicies file policy_docs) (sym e)
        (sym (policies_are file), clean_sound policy_docs are_clean),
  ),
)
