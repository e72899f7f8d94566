use Rattle.std.proofs.Common.{◌≡◌, drop}
use Rattle.rb_yaml.specs.Documents.{has_control}
use Rattle.rb_yaml.proofs.documents.has_control.Given as goal

abbrev pub invariant-loop-at : goal.invariant-loop-at
invariant-loop-at l = has_control (drop l.at l.text) ≡ has_control l.text
