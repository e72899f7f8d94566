use Rattle.std.proofs.Common.{◌≡◌, drop}
use Rattle.rb_yaml.specs.Literals.{first_filled}
use Rattle.rb_yaml.proofs.literals.first_filled.Given as goal

abbrev pub invariant-loop-line : goal.invariant-loop-line
invariant-loop-line l = first_filled (drop l.line-index l.lines) ≡ first_filled l.lines
