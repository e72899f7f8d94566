use Rattle.std.proofs.Common.{◌≡◌, ◌++◌, drop, string_bytes}
use Rattle.rb_top.specs.Texts.{spaced, with_spaces}
use Rattle.rb_top.proofs.output.spaced_text.Given as goal

-- what was written and the words that are left are all words
abbrev pub invariant-loop-word : goal.invariant-loop-word
invariant-loop-word l = string_bytes l.text ++ with_spaces (drop l.word-index l.rest) ≡ spaced l.words
