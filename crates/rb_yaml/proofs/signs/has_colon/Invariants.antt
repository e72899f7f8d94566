use Rattle.std.proofs.Common.{◌≡◌, drop}
use Rattle.rb_yaml.specs.Signs.{has_colon}
use Rattle.rb_yaml.proofs.signs.has_colon.Given as goal

abbrev pub invariant-loop-at : goal.invariant-loop-at
invariant-loop-at l = has_colon (drop l.at l.text) ≡ has_colon l.text
