use Rattle.std.proofs.Common.{◌≡◌, drop}
use Rattle.std.specs.List.{list_any}
use Rattle.rb_text.specs.Matching.{matches_whole}
use Rattle.rb_text.proofs.searching.Search.is_any.Given as goal

-- the search is the same, and the texts that are left tell what all tell
abbrev pub invariant-loop-text : goal.invariant-loop-text
invariant-loop-text l = (l.self ≡ l.fn.self)
    × (list_any (matches_whole l.self) (drop l.text-index l.texts)
    ≡ list_any (matches_whole l.self) l.texts)
