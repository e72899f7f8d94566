use Rattle.std.proofs.Common.{◌≡◌, List, ℕ, drop}
use Rattle.rb_causes.specs.SeenTexts.{HasSeen}
use Rattle.rb_causes.specs.Texts.{are_new, differ}
use Rattle.rb_top.proofs.reading.differ.Given as goal

-- the set holds the names before, and those that are left are new behind them where all differ
abbrev pub invariant-loop-name : goal.invariant-loop-name
invariant-loop-name l =
    (before : List (List ℕ)) × HasSeen l.seen before × (are_new before (drop l.name-index l.names) ≡ differ l.names)
