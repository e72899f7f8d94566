-- What is kept of an answer that ends the imports, until it is told.
use Rattle.std.specs.Prelude.{ℕ, List, codes, Some, None}
use Rattle.rb_fault_lines.specs.Lines.{yaml_line, node_line, policy_line, job_line}
use Rattle.rb_session.specs.Imports.{stop_wanting}
use Rattle.rb_session.specs.Lines.{Stop, stop_with, kind_line, full_line, store_line}
use Rattle.rb_session.specs.declared.stopping.DocumentFault.{DocumentFault}
use Rattle.rb_session.specs.declared.stopping.DocumentFault.TheVariants as fault
use Rattle.rb_session.specs.declared.stopping.ImportStop.{ImportStop}
use Rattle.rb_session.specs.declared.stopping.ImportStop.TheVariants as stop

abbrev pub document_line : List ℕ → DocumentFault → List ℕ
document_line file (fault.Yaml f) = yaml_line file f
document_line file (fault.Nodes f) = node_line file f
document_line file (fault.Policy f) = policy_line file f
document_line file (fault.Jobs f) = job_line file f
document_line file fault.BadZone = kind_line file (codes "BadZone") None
document_line file fault.BadName = kind_line file (codes "BadName") None
document_line file fault.TooManyFiles = kind_line file (codes "TooManyFiles") None
document_line file fault.NoProject = kind_line file (codes "NoProject") None
document_line file (fault.IdTaken id) = kind_line file (codes "IdTaken") (Some id)
document_line file (fault.NameTaken id) = kind_line file (codes "NameTaken") (Some id)

-- the end that is told of the import of this file
abbrev pub stop_told : List ℕ → ImportStop → Stop
stop_told file (stop.Refused f) = stop_with 3 (document_line file f)
stop_told file stop.Full = stop_with 10 full_line
stop_told file stop.StoreFault = stop_with 6 store_line
stop_told file stop.NoMemory = stop_wanting
