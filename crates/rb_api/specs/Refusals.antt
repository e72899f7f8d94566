-- The replies to what the desk refuses.
use Rattle.std.specs.Prelude.{ℕ, List, [], ◌∷◌, ◌++◌, codes, decimal, Option, Some, None, if◌then◌else◌}
use Rattle.rb_acl_doc.specs.declared.fault.AclFault.{AclFault}
use Rattle.rb_causes.specs.Texts.{is_empty}
use Rattle.rb_faults.specs.Kinds.{yaml_kind, yaml_form, acl_kind_name, policy_key, job_kind}
use Rattle.rb_job.specs.declared.fault.JobFault.{JobFault}
use Rattle.rb_log.specs.declared.answer.Reason.{Reason}
use Rattle.rb_option.specs.declared.option_err.OptionFault.{OptionFault}
use Rattle.rb_option.specs.declared.option_err.OptionKind.{OptionKind}
use Rattle.rb_option.specs.declared.option_err.OptionKind.TheVariants.{Unknown, Missing, NotAllowed, NoMatch, Twice}
use Rattle.rb_plan.specs.declared.refusal.Refusal.{Refusal}
use Rattle.rb_plan.specs.declared.refusal.Refusal.TheVariants as refusal
use Rattle.rb_yaml.specs.declared.fault.YamlFault.{YamlFault}
use Rattle.rb_reply.specs.Errors.{Reply, error_reply, denial_reply}
use Rattle.rb_reply.specs.declared.error_code.ErrorCode.TheVariants as code

-- ---- denials

abbrev pub denial : Reason → Reply
denial r = denial_reply (r.action ++ codes " denied on " ++ r.thing) r.clause

-- a refusal that holds a decision has its reason, so that the second never comes
abbrev pub denial_by : Option Reason → Reply
denial_by (Some reason) = denial reason
denial_by None = denial_reply (codes "denied") (codes "none allows")

-- ---- documents: a fault line's text without the file

-- what is spoken of, in brackets, where there is something
abbrev pub bracketed : Option (List ℕ) → List ℕ
bracketed None = []
bracketed (Some text) = codes "(" ++ text ++ codes ")"

-- LINE: KIND
abbrev pub yaml_text : YamlFault → List ℕ
yaml_text f = decimal f.line ++ codes ": " ++ yaml_kind f.kind ++ bracketed (yaml_form f.kind)

-- document K: KIND
abbrev pub policy_text : AclFault → List ℕ
policy_text f =
    codes "document " ++ decimal f.doc ++ codes ": " ++ acl_kind_name f.kind
    ++ bracketed (policy_key f.kind)

-- KEY: in front of a kind, where a key is told
abbrev pub key_text : List ℕ → List ℕ
key_text key = if is_empty key then [] else key ++ codes ": "

-- job K: KEY: KIND
abbrev pub job_text : JobFault → List ℕ
job_text f = codes "job " ++ decimal f.job ++ codes ": " ++ key_text f.key ++ job_kind f.kind

abbrev pub document_reply : List ℕ → Reply
document_reply text = error_reply code.BadDocument text

-- ---- refusals of a run

-- GROUP/NAME of each reference
abbrev pub path_text : List (List ℕ) → List ℕ
path_text [] = []
path_text (x ∷ []) = x
path_text (x ∷ y ∷ ys) = x ++ codes " > " ++ path_text (y ∷ ys)

abbrev pub option_kind : OptionKind → List ℕ
option_kind Unknown = codes "unknown"
option_kind Missing = codes "missing"
option_kind NotAllowed = codes "not allowed"
option_kind NoMatch = codes "no match"
option_kind Twice = codes "given twice"

-- of a reference its path is told first
abbrev pub reference_text : List (List ℕ) → List ℕ
reference_text [] = []
reference_text (x ∷ xs) = codes "reference " ++ path_text (x ∷ xs) ++ codes ": "

abbrev pub option_text : List (List ℕ) → OptionFault → List ℕ
option_text path f =
    reference_text path ++ codes "option " ++ f.name ++ codes ": " ++ option_kind f.kind

-- the refusal of a run of this job
abbrev pub refusal_reply : List ℕ → Refusal → Option Reason → Reply
refusal_reply job refusal.NoJob reason = error_reply code.NoJob (codes "no job " ++ job)
refusal_reply job (refusal.JobDenied decision) reason = denial_by reason
refusal_reply job (refusal.BadReference path cause) reason =
    error_reply code.BadReference (codes "reference " ++ path_text path)
refusal_reply job (refusal.ReferenceDenied path decision) reason = denial_by reason
refusal_reply job refusal.Disabled reason = error_reply code.Disabled (codes "job is disabled")
refusal_reply job (refusal.AlreadyRunning execution) reason =
    error_reply code.AlreadyRunning
    (codes "execution " ++ decimal execution ++ codes " is running")
refusal_reply job (refusal.BadOption path fault) reason =
    error_reply code.BadOption (option_text path fault)
refusal_reply job refusal.NoNodeSelected reason =
    error_reply code.NoNodeSelected (codes "no node selected")
refusal_reply job (refusal.NoNodeAllowed node decision) reason = denial_by reason
refusal_reply job (refusal.TooLarge leaves) reason =
    error_reply code.TooLarge (decimal leaves ++ codes " leaves")
