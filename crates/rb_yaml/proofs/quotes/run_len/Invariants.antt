use Rattle.std.proofs.Common.{◌≡◌, ◌+◌, drop}
use Rattle.rb_yaml.specs.Quotes.{run_len}
use Rattle.rb_yaml.proofs.quotes.run_len.Given as goal

abbrev pub invariant-loop-at : goal.invariant-loop-at
invariant-loop-at l = l.at + run_len l.stop l.other (drop l.at l.text) ≡ run_len l.stop l.other l.text
