use Rattle.std.proofs.Common.{◌≡◌, ◌++◌, not, drop, map, filter}
use Rattle.rb_causes.specs.Texts.{is_tags}
use Rattle.rb_command.specs.ExplainWords.{prop_in_word}
use Rattle.rb_command.proofs.explain_words.props_of.Given as goal

-- what is kept so far, and of the pairs that are left, is what is kept of all
abbrev pub invariant-loop-pair : goal.invariant-loop-pair
invariant-loop-pair l =
    l.props ++ filter (λ p. not (is_tags p.key)) (map prop_in_word (drop l.pair-index l.pairs)) ≡ filter (λ p. not (is_tags p.key)) (map prop_in_word l.pairs)
