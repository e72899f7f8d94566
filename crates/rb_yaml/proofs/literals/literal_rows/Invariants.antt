use Rattle.std.proofs.Common.{◌≡◌, drop, true, string_bytes}
use Rattle.rb_yaml.specs.Literals.{literal_rows}
use Rattle.rb_yaml.proofs.LiteralFacts.{with_text}
use Rattle.rb_yaml.proofs.literals.literal_rows.Given as goal

-- the text so far and that of the lines that are left are the whole
abbrev pub invariant-loop-at : goal.invariant-loop-at
invariant-loop-at l = with_text (string_bytes l.out) (literal_rows l.floor l.indent l.leading (drop l.at l.lines)) ≡ literal_rows l.floor l.indent true l.lines
