use Rattle.std.proofs.Common.{◌≡◌, ◌++◌, drop}
use Rattle.std.specs.List.{flat_map}
use Rattle.std.specs.Prelude.{string_bytes}
use Rattle.rb_export.specs.Words.{word_behind}
use Rattle.rb_export.proofs.words.push_words.Given as goal

-- the text so far, with the words that are left, is all
abbrev pub invariant-loop-word : goal.invariant-loop-word
invariant-loop-word l =
    string_bytes l.text ++ flat_map word_behind (drop l.word-index l.words)
    ≡ string_bytes l.initial.text ++ flat_map word_behind l.words
