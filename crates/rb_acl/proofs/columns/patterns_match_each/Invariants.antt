use Rattle.std.proofs.Common.{◌≡◌, map, take}
use Rattle.std.specs.List.{list_all}
use Rattle.rb_text.specs.Matching.{matches_whole}
use Rattle.rb_acl.specs.Applying.{property_text}
use Rattle.rb_acl.proofs.columns.patterns_match_each.Given as goal

-- the marks are those of the patterns so far
abbrev pub invariant-loop-pattern : goal.invariant-loop-pattern
invariant-loop-pattern l = l.marks.items ≡ map (λ resource. list_all
    (λ pattern. matches_whole pattern (property_text resource l.key))
    (take l.pattern-index l.patterns)) l.resources
