use Rattle.std.proofs.Common.{◌≡◌, codes, drop, map}
use Rattle.rb_acl.specs.Applying.{prop_text}
use Rattle.rb_command.specs.ExplainWords.{prop_in_word}
use Rattle.rb_command.proofs.explain_words.tags_text.Given as goal

-- no pair so far is one of the tags
abbrev pub invariant-loop-pair : goal.invariant-loop-pair
invariant-loop-pair l =
    prop_text (map prop_in_word (drop l.pair-index l.pairs)) (codes "tags") ≡ prop_text (map prop_in_word l.pairs) (codes "tags")
