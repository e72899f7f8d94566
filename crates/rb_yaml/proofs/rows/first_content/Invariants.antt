use Rattle.std.proofs.Common.{◌≡◌, drop}
use Rattle.rb_yaml.specs.Rows.{first_content}
use Rattle.rb_yaml.proofs.rows.first_content.Given as goal

abbrev pub invariant-loop-at : goal.invariant-loop-at
invariant-loop-at l = first_content (drop l.at l.lines) ≡ first_content l.lines
