use Rattle.std.proofs.Common.{◌≡◌, ◌+◌, drop}
use Rattle.rb_expand.specs.Pieces.{name_len}
use Rattle.rb_expand.proofs.naming.name_len.Given as goal

-- all signs so far are signs of names
abbrev pub invariant-loop-i : goal.invariant-loop-i
invariant-loop-i l = l.i + name_len (drop l.i l.text) ≡ name_len l.text
