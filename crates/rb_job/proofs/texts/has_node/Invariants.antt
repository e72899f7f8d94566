use Rattle.std.proofs.Common.{◌≡◌, drop}
use Rattle.rb_job.specs.TextForms.{has_node}
use Rattle.rb_job.proofs.texts.has_node.Given as goal

-- it stands in what is left where it stands in the whole
abbrev pub invariant-loop-i : goal.invariant-loop-i
invariant-loop-i l = has_node (drop l.i l.text) ≡ has_node l.text
