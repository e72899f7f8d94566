use Rattle.std.proofs.Common.{◌≡◌, ◌≤◌, drop, zero, string_bytes}
use Rattle.rb_yaml.specs.Scalars.{single_more}
use Rattle.rb_yaml.proofs.scalars.single_more.Given as goal

-- the text so far, with the lines that are left, is the whole
abbrev pub invariant-loop-at : goal.invariant-loop-at
invariant-loop-at l = record {
  same : single_more l.number (string_bytes l.out) l.blanks (drop l.at l.lines) ≡ single_more l.number l.text zero l.lines;
  few : l.blanks ≤ l.at;
}
