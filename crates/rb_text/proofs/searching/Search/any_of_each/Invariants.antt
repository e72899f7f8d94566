use Rattle.std.proofs.Common.{◌≡◌, map, take}
use Rattle.std.specs.List.{list_any}
use Rattle.rb_text.specs.Matching.{matches_whole}
use Rattle.rb_text.proofs.searching.Search.any_of_each.Given as goal

-- the search is the same, and the lists so far have their marks
abbrev pub invariant-loop-texts : goal.invariant-loop-texts
invariant-loop-texts l = (l.self ≡ l.fn.self)
    × (l.marks.items
    ≡ map (list_any (matches_whole l.self)) (map (λ texts. texts.now) (take l.texts-index l.lists)))
