use Rattle.std.proofs.Common.{◌≡◌, ◌++◌, drop, map}
use Rattle.rb_causes.specs.Words.{word_text}
use Rattle.rb_causes.proofs.word_texts.texts_of.Given as goal

-- the texts so far, with those of the words that are left, are all
abbrev pub invariant-loop-word : goal.invariant-loop-word
invariant-loop-word l = l.texts.items ++ map word_text (drop l.word-index l.words) ≡ map word_text l.words
