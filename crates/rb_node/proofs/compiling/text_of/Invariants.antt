use Rattle.std.proofs.Common.{◌≡◌, ◌++◌, drop, string_bytes}
use Rattle.rb_node.specs.Drafts.{spelled}
use Rattle.rb_node.proofs.compiling.text_of.Given as goal

-- the text so far, with the characters that are left, is the whole
abbrev pub invariant-loop-c : goal.invariant-loop-c
invariant-loop-c l = string_bytes l.text ++ spelled (drop l.c-index l.chars) ≡ spelled l.chars
