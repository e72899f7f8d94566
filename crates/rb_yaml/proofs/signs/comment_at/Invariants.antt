use Rattle.std.proofs.Common.{◌≡◌, ◌+◌, drop, false}
use Rattle.rb_yaml.specs.Signs.{comment_at}
use Rattle.rb_yaml.proofs.signs.comment_at.Given as goal

abbrev pub invariant-loop-at : goal.invariant-loop-at
invariant-loop-at l = l.at + comment_at l.blank (drop l.at l.text) ≡ comment_at false l.text
