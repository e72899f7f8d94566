use Rattle.std.proofs.Common.{◌++◌, ℕ, List, length}
use denote.Text.{Utf8}
use denote.Shadow.{shadow}
use Rattle.rb_option.specs.Parting.{PartedAt}
use Rattle.rb_option.proofs.parting.parts_at.Given as goal

-- with the parts of the rest behind them, the parts so far are those of the text
abbrev pub invariant-loop-part : goal.invariant-loop-part
invariant-loop-part l =
    shadow (Utf8 l.rest)
    × ((more : List (List ℕ)) → PartedAt l.delimiter l.rest more → PartedAt l.delimiter l.text (l.parts.items ++ more))

abbrev pub decreases-loop-part : goal.decreases-loop-part
decreases-loop-part l = length l.rest
