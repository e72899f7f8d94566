use denote.Shadow.{shadow}
use denote.Text.{Utf8}
use Rattle.std.proofs.Common.{◌≡◌, ◌++◌, map, length}
use Rattle.std.specs.List.{slice_split}
use Rattle.rb_causes.specs.Texts.{is_blank}
use Rattle.rb_top.proofs.words.blank_parts.Given as goal

-- the words so far and those of the rest are those of the line
abbrev pub invariant-loop-word : goal.invariant-loop-word
invariant-loop-word l =
    shadow (Utf8 l.rest) × (map (λ w. w.now) l.words.items ++ slice_split is_blank l.rest ≡ slice_split is_blank l.line)

abbrev pub decreases-loop-word : goal.decreases-loop-word
decreases-loop-word l = length l.rest
