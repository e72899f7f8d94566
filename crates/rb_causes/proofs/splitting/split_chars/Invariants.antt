use Rattle.std.proofs.Common.{◌≡◌, drop}
use Rattle.rb_causes.specs.Words.{words_in}
use Rattle.rb_causes.specs.WordsLeft.{left, IsClear}
use Rattle.rb_causes.proofs.splitting.split_chars.Given as goal

-- what the reader has still to give, with the rest of the text, is all words of the text
abbrev pub invariant-loop-c : goal.invariant-loop-c
invariant-loop-c l = record {
  clear : IsClear l.reader.place l.reader.word.items;
  gives : left l.reader.words.items l.reader.word.items l.reader.place (drop l.c-index l.chars) ≡ words_in l.chars;
}
