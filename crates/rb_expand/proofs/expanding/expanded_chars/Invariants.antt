use Rattle.std.proofs.Common.{◌≡◌, ◌++◌, drop, string_bytes}
use Rattle.rb_expand.specs.Expanded.{pieces_text}
use Rattle.rb_expand.specs.Pieces.{pieces_behind}
use Rattle.rb_expand.proofs.expanding.expanded_chars.Given as goal

-- the text so far, with what the rest gives, is what the whole gives
abbrev pub invariant-loop-i : goal.invariant-loop-i
invariant-loop-i l =
    string_bytes l.out ++ pieces_text l.names (pieces_behind l.style l.passed (drop l.i l.chars))
    ≡ pieces_text l.names (pieces_behind l.style 0 l.chars)
