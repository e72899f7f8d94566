use Rattle.std.proofs.Common.{◌≡◌, bytes_eq, map, take}
use Rattle.std.specs.List.{list_any}
use Rattle.rb_text.proofs.value.equals_any_of_each.Given as goal

-- the lists so far have their marks
abbrev pub invariant-loop-texts : goal.invariant-loop-texts
invariant-loop-texts l = l.marks.items
    ≡ map (list_any (bytes_eq l.text)) (map (λ texts. texts.now) (take l.texts-index l.lists))
