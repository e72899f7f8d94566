use Rattle.std.proofs.Common.{◌≡◌, drop}
use Rattle.rb_yaml.specs.Documents.{control_fault}
use Rattle.rb_yaml.proofs.documents.control_fault.Given as goal

abbrev pub invariant-loop-line : goal.invariant-loop-line
invariant-loop-line l = control_fault (drop l.line-index l.lines) ≡ control_fault l.lines
