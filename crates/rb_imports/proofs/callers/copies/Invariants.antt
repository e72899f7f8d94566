use Rattle.std.proofs.Common.{◌≡◌, map, take}
use Rattle.rb_imports.proofs.callers.copies.Given as goal

-- the texts so far are copied
abbrev pub invariant-loop-text : goal.invariant-loop-text
invariant-loop-text l = l.copy ≡ map (λ text. text.now) (take l.text-index l.texts)
