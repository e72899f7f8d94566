use Rattle.std.proofs.Common.{◌≡◌, ◌++◌, drop}
use Rattle.std.specs.List.{flat_map}
use Rattle.rb_export.specs.Words.{pair_words}
use Rattle.rb_export.proofs.words.pairs_words.Given as goal

-- the words so far, with those of the pairs that are left, are all
abbrev pub invariant-loop-pair : goal.invariant-loop-pair
invariant-loop-pair l =
    l.words.items ++ flat_map pair_words (drop l.pair-index l.pairs) ≡ flat_map pair_words l.pairs
