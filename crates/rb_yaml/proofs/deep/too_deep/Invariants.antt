use Rattle.std.proofs.Common.{◌≡◌, ◌+◌, ◌-◌, length}
use Rattle.rb_yaml.specs.Deep.{too_deep}
use Rattle.rb_yaml.proofs.deep.too_deep.Given as goal

-- what the line that is left shows is what the first shows
abbrev pub invariant-loop-turn : goal.invariant-loop-turn
invariant-loop-turn l = too_deep (length l.head.text + 1 - l._turn) l.line l.lines ≡ too_deep (length l.head.text + 1) l.head l.lines
