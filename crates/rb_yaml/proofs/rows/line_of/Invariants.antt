use Rattle.std.proofs.Common.{◌≡◌, ◌≤◌, ◌+◌, ◌-◌, length, drop, IsCharBoundary}
use Rattle.rb_yaml.specs.Rows.{spaces}
use Rattle.rb_yaml.proofs.rows.line_of.Given as goal

-- the spaces passed and those that are left are all, and the text may be cut there
abbrev pub invariant-loop-indent : goal.invariant-loop-indent
invariant-loop-indent l = record {
  within : l.indent ≤ length l.text;
  same : l.indent + spaces (drop l.indent l.text) ≡ spaces l.text;
  cut : IsCharBoundary l.text l.indent;
}

abbrev pub decreases-loop-indent : goal.decreases-loop-indent
decreases-loop-indent l = length l.text - l.indent
