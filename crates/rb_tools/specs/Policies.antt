-- What `check policy` and `explain` print of a file's bytes, and why it is refused.
use Rattle.std.specs.Prelude.{◌≡◌, ℕ, List, [], ◌∷◌, length, codes, decimal, Result, Ok, Err}
use Rattle.rb_command.specs.Lines.{line_of}
use Rattle.rb_yaml.specs.Documents.{docs_of}
use Rattle.rb_yaml.specs.Tree.{YamlTree}
use Rattle.rb_acl.specs.Applying.{Question, question_of}
use Rattle.rb_acl.specs.Deciding.{decision_of}
use Rattle.rb_acl.specs.Naming.{clause_text}
use Rattle.rb_acl.specs.declared.policy.Decision.{Decision}
use Rattle.rb_acl.specs.declared.policy.Decision.TheVariants.{Allowed, Denied, NoneAllows}
use Rattle.rb_acl.specs.declared.policy.Policies.{Policies}
use Rattle.rb_acl_doc.specs.Policies.{policies_from}
use Rattle.rb_acl_doc.specs.Reading.{AreSound, RefusesDocs}
use Rattle.rb_acl_doc.specs.declared.fault.AclErr.TheVariants.{Fault}
use Rattle.rb_tools.specs.declared.policies.Ask.{Ask}
use Rattle.rb_tools.specs.declared.refusal.ToolRefusal.{ToolRefusal}
use Rattle.rb_tools.specs.declared.refusal.ToolRefusal.TheVariants.{Yaml, Node, Policy, Job, Filter, Crontab, Zone, NoMemory}

-- The file holds these documents, each of which is a sound policy.
pub record HoldsPolicies (bytes : List ℕ) (docs : List YamlTree) : Type 0 where
  pub given : docs_of bytes ≡ Ok docs
  pub sound : AreSound docs

-- its policies, the documents numbered from 1
abbrev pub file_policies : List ℕ → List YamlTree → Policies
file_policies file docs = record { docs = policies_from file 1 docs }

-- Why nothing is printed of a file's bytes: they break a rule of YAML, or they give documents and
-- one is faulty.
abbrev pub RefusesPolicies : List ℕ → ToolRefusal → Type 0
RefusesPolicies bytes NoMemory = Unit {0}
RefusesPolicies bytes (Yaml fault) = docs_of bytes ≡ Err fault
RefusesPolicies bytes (Policy fault) =
    (docs : List YamlTree) × (docs_of bytes ≡ Ok docs) × RefusesDocs docs (Fault fault)
RefusesPolicies bytes (Node fault) = ⊥
RefusesPolicies bytes (Job fault) = ⊥
RefusesPolicies bytes (Filter error) = ⊥
RefusesPolicies bytes (Crontab error) = ⊥
RefusesPolicies bytes Zone = ⊥

-- why documents are refused: one is faulty
abbrev pub IsPolicyRefusal : List YamlTree → ToolRefusal → Type 0
IsPolicyRefusal docs NoMemory = Unit {0}
IsPolicyRefusal docs (Policy fault) = RefusesDocs docs (Fault fault)
IsPolicyRefusal docs (Yaml fault) = ⊥
IsPolicyRefusal docs (Node fault) = ⊥
IsPolicyRefusal docs (Job fault) = ⊥
IsPolicyRefusal docs (Filter error) = ⊥
IsPolicyRefusal docs (Crontab error) = ⊥
IsPolicyRefusal docs Zone = ⊥

-- how many documents there are
abbrev pub documents_text : List YamlTree → List ℕ
documents_text docs = line_of (decimal (length docs) ∷ codes " documents" ∷ [])

-- What is read of a file's bytes that are to hold policies: how many documents they hold, or why
-- they are refused.
abbrev pub ReadsDocuments : List ℕ → Result (List ℕ) ToolRefusal → Type 0
ReadsDocuments bytes (Ok text) =
    (docs : List YamlTree) × HoldsPolicies bytes docs × (text ≡ documents_text docs)
ReadsDocuments bytes (Err refusal) = RefusesPolicies bytes refusal

-- a decision, with the clause that decides
abbrev pub decision_line : Policies → Decision → List ℕ
decision_line policies (Allowed clause) =
    line_of (codes "allowed by " ∷ clause_text policies clause ∷ [])
decision_line policies (Denied clause) =
    line_of (codes "denied by " ∷ clause_text policies clause ∷ [])
decision_line policies NoneAllows = line_of (codes "denied, none allows" ∷ [])

-- what the policies decide on a question
abbrev pub decision_told : Policies → Question → List ℕ
decision_told policies question = decision_line policies (decision_of policies question)

abbrev pub question_in : Ask → Question
question_in ask = question_of ask.caller ask.context ask.resource ask.action

-- What is read of the bytes of a file of this name: what its policies decide, or why it is refused.
abbrev pub ReadsDecision : List ℕ → Question → List ℕ → Result (List ℕ) ToolRefusal → Type 0
ReadsDecision file question bytes (Ok text) =
    (docs : List YamlTree) × HoldsPolicies bytes docs
    × (text ≡ decision_told (file_policies file docs) question)
ReadsDecision file question bytes (Err refusal) = RefusesPolicies bytes refusal
