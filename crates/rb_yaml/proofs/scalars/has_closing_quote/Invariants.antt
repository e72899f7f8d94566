use Rattle.std.proofs.Common.{◌≡◌, drop}
use Rattle.rb_yaml.specs.Scalars.{has_closing_quote}
use Rattle.rb_yaml.proofs.scalars.has_closing_quote.Given as goal

abbrev pub invariant-loop-line : goal.invariant-loop-line
invariant-loop-line l =
    has_closing_quote l.floor (drop l.line-index l.lines) ≡ has_closing_quote l.floor l.lines
