-- The lines that tell what is wrong with a document.
use Rattle.std.specs.Prelude.{ℕ, List, [], ◌∷◌, codes, None, if◌then◌else◌}
use Rattle.rb_causes.specs.Texts.{is_empty}
use Rattle.rb_command.specs.Lines.{fault_line, rule_line, place_line, key_line}
use Rattle.rb_faults.specs.Kinds.{
  yaml_kind,
  yaml_form,
  node_kind,
  job_kind,
  acl_kind_name,
  policy_key,
}
use Rattle.rb_acl_doc.specs.declared.fault.AclFault.{AclFault}
use Rattle.rb_inventory.specs.declared.fault.NodeFault.{NodeFault}
use Rattle.rb_job.specs.declared.fault.JobFault.{JobFault}
use Rattle.rb_yaml.specs.declared.fault.YamlFault.{YamlFault}

-- rundeskd: FILE:LINE: RULE
abbrev pub yaml_line : List ℕ → YamlFault → List ℕ
yaml_line file fault = rule_line file fault.line (yaml_kind fault.kind) (yaml_form fault.kind)

-- rundeskd: FILE: node NAME: KIND
abbrev pub named_line : List ℕ → List ℕ → List ℕ → List ℕ
named_line file node kind = fault_line (file ∷ codes ": node " ∷ node ∷ codes ": " ∷ kind ∷ [])

abbrev pub node_line : List ℕ → NodeFault → List ℕ
node_line file fault = named_line file fault.node (node_kind fault.kind)

-- rundeskd: FILE: document K: KIND, or KIND(KEY)
abbrev pub policy_line : List ℕ → AclFault → List ℕ
policy_line file fault =
    place_line file (codes ": document ") fault.doc (acl_kind_name fault.kind)
    (policy_key fault.kind)

-- rundeskd: FILE: job K: KEY: KIND, or without a key KIND alone
abbrev pub job_line : List ℕ → JobFault → List ℕ
job_line file fault =
    if is_empty fault.key
    then place_line file (codes ": job ") fault.job (job_kind fault.kind) None
    else key_line file (codes ": job ") fault.job fault.key (job_kind fault.kind)
