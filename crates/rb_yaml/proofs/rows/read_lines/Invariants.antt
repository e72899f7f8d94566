use Rattle.std.proofs.Common.{◌≡◌, ◌≤◌, ◌+◌, ◌^◌, ◌++◌, length}
use Rattle.std.specs.List.{slice_split}
use Rattle.rb_causes.specs.Texts.{is_line_feed}
use denote.Text.{Utf8}
use denote.Shadow.{shadow}
use Rattle.rb_yaml.specs.Rows.{numbered, rows_of}
use Rattle.rb_yaml.proofs.rows.read_lines.Given as goal

-- the lines so far and those that are left are all, and a line takes a byte at least
abbrev pub invariant-loop-front : goal.invariant-loop-front
invariant-loop-front l = record {
  text : shadow (Utf8 l.rest);
  same : l.lines.items ++ numbered l.number (slice_split is_line_feed l.rest) ≡ rows_of l.text;
  within : l.number + length l.rest ≤ 2 ^ 20 + 1;
}

abbrev pub decreases-loop-front : goal.decreases-loop-front
decreases-loop-front l = length l.rest
