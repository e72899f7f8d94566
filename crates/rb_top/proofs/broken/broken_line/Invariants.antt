use Rattle.std.proofs.Common.{◌≡◌, drop, map}
use Rattle.rb_top.specs.Broken.{broken_after, broken_line}
use Rattle.rb_top.specs.Names.{HasNames}
use Rattle.rb_top.proofs.broken.broken_line.Given as goal

-- the names are those of the script so far, and what is left of the lines breaks behind it what the
-- file breaks
abbrev pub invariant-loop-line_bytes : goal.invariant-loop-line_bytes
invariant-loop-line_bytes l = record {
  names : HasNames l.names l.script;
  rest : broken_after l.script (map (λ line. line.now) (drop l.line_bytes-index l.line_bytes-items)) ≡ broken_line l.bytes;
}
