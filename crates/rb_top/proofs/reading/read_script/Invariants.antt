use Rattle.std.proofs.Common.{◌≡◌, ◌+◌, drop, map}
use Rattle.rb_top.specs.Lines.{read_line}
use Rattle.rb_top.specs.Names.{HasNames}
use Rattle.rb_top.specs.Reading.{script_after, script_of}
use Rattle.rb_top.proofs.reading.read_script.Given as goal

-- the names are those of the script so far, and what is left of the lines makes of it what the file
-- says
abbrev pub invariant-loop-index : goal.invariant-loop-index
invariant-loop-index l = record {
  names : HasNames l.names l.script;
  rest : script_after l.script (l.index + 1) (map read_line (map (λ line. line.now) (drop l.index l.line-items))) ≡ script_of l.bytes;
}
