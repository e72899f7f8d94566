use Rattle.std.proofs.Common.{◌≡◌, ◌∷◌, [], map, take}
use Rattle.rb_acl.proofs.columns.lists_of_one.Given as goal

-- the lists are those of the texts so far
abbrev pub invariant-loop-text : goal.invariant-loop-text
invariant-loop-text l = map (λ list. list.now) l.lists.items
    ≡ map (λ text. text ∷ []) (take l.text-index l.texts)
