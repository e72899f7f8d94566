use Rattle.std.proofs.Common.{◌≡◌, drop}
use Rattle.std.specs.List.{list_all}
use Rattle.rb_text.specs.Matching.{matches_whole}
use Rattle.rb_acl.proofs.testing.all_match.Given as goal

-- the patterns that are left match where all do
abbrev pub invariant-loop-pattern : goal.invariant-loop-pattern
invariant-loop-pattern l =
    list_all (λ pattern. matches_whole pattern l.text) (drop l.pattern-index l.patterns)
    ≡ list_all (λ pattern. matches_whole pattern l.text) l.patterns
