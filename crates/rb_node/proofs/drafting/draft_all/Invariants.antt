use Rattle.std.proofs.Common.{◌≡◌, ◌+◌, drop}
use Rattle.rb_node.specs.Drafts.{drafts_before, drafts_from, drafts_of}
use Rattle.rb_node.proofs.drafting.draft_all.Given as goal

-- the clauses so far, with those of the words that are left, are all
abbrev pub invariant-loop-i : goal.invariant-loop-i
invariant-loop-i l = drafts_before l.drafts (drafts_from (l.i + 1) l.pending (drop l.i l.words))
    ≡ drafts_of l.words
