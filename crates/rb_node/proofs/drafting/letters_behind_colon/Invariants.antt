use Rattle.std.proofs.Common.{◌≡◌, drop}
use Rattle.rb_node.specs.Drafts.{letters_behind_colon}
use Rattle.rb_node.proofs.drafting.letters_behind_colon.Given as goal

-- the first colon of what is left is that of the whole
abbrev pub invariant-loop-i : goal.invariant-loop-i
invariant-loop-i l = letters_behind_colon (drop l.i l.body) ≡ letters_behind_colon l.body
