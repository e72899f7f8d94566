use Rattle.std.proofs.Common.{◌≡◌, ◌+◌, ◌≤◌, drop}
use Rattle.rb_text.specs.Light.{brace_total}
use Rattle.rb_text.proofs.Scan.{counted}
use Rattle.rb_text.proofs.light.counts_little.Given as goal

-- what has been counted and what is left make the whole, and it is little so far
abbrev pub invariant-loop-b : goal.invariant-loop-b
invariant-loop-b l = record {
  whole : l.total + counted l.in_braces l.number (drop l.b-index l.text) ≡ brace_total l.text;
  little : l.total + l.number ≤ 100;
}
