use Rattle.std.proofs.Common.{◌≡◌, ◌++◌, drop}
use Rattle.std.specs.List.{flat_map}
use Rattle.std.specs.Prelude.{string_bytes}
use Rattle.std.specs.Str.{encode_utf8_all}
use Rattle.rb_export.specs.Words.{escaped}
use Rattle.rb_export.proofs.words.push_all_escaped.Given as goal

-- the text so far, with what is left, is all
abbrev pub invariant-loop-c : goal.invariant-loop-c
invariant-loop-c l =
    string_bytes l.text ++ encode_utf8_all (flat_map escaped (drop l.c-index l.cs))
    ≡ string_bytes l.initial.text ++ encode_utf8_all (flat_map escaped l.cs)
