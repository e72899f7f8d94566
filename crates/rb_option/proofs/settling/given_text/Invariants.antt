use Rattle.std.proofs.Common.{◌≡◌, drop}
use Rattle.rb_option.specs.Settled.{given_text}
use Rattle.rb_option.proofs.settling.given_text.Given as goal

-- what the values that are left give is what all give
abbrev pub invariant-loop-value : goal.invariant-loop-value
invariant-loop-value l = given_text (drop l.value-index l.given) l.name ≡ given_text l.given l.name
