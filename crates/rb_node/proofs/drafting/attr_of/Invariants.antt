use Rattle.std.proofs.Common.{◌≡◌, ◌++◌, drop, string_bytes}
use Rattle.rb_node.specs.Drafts.{spelled, letters, before_colon}
use Rattle.rb_node.proofs.drafting.attr_of.Given as goal

-- the text so far, with what stands before the colon in the rest, is the attribute
abbrev pub invariant-loop-letter : goal.invariant-loop-letter
invariant-loop-letter l = string_bytes l.attr
    ++ spelled (letters (before_colon (drop l.letter-index l.body)))
    ≡ spelled (letters (before_colon l.body))
