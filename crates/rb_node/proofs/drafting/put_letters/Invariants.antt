use Rattle.std.proofs.Common.{◌≡◌, ◌++◌, drop}
use Rattle.rb_node.specs.Drafts.{letters}
use Rattle.rb_node.proofs.drafting.put_letters.Given as goal

-- the value so far, with the characters that are left, is the value with all of the word
abbrev pub invariant-loop-letter : goal.invariant-loop-letter
invariant-loop-letter l = l.value ++ letters (drop l.letter-index l.word) ≡ l.fn.value
    ++ letters l.word
