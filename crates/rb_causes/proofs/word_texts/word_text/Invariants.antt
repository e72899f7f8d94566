use Rattle.std.proofs.Common.{◌≡◌, ◌++◌, drop, string_bytes}
use Rattle.rb_causes.specs.Words.{word_text}
use Rattle.rb_causes.proofs.word_texts.word_text.Given as goal

-- the text so far, with that of the letters that are left, is the whole
abbrev pub invariant-loop-letter : goal.invariant-loop-letter
invariant-loop-letter l = string_bytes l.text ++ word_text (drop l.letter-index l.word) ≡ word_text l.word
