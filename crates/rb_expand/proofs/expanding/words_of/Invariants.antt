use Rattle.std.proofs.Common.{◌≡◌, ◌++◌, drop}
use Rattle.rb_expand.specs.Expanded.{words_expanded}
use Rattle.rb_expand.proofs.expanding.words_of.Given as goal

-- the words so far, with those of the template that are left, are all
abbrev pub invariant-loop-word : goal.invariant-loop-word
invariant-loop-word l = l.words.items ++ words_expanded l.names (drop l.word-index l.template) ≡ words_expanded l.names l.template
