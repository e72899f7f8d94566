use Rattle.std.proofs.Common.{◌≡◌, take}
use Rattle.rb_api.proofs.callers.copied_texts.Given as goal

-- the texts so far are copied
abbrev pub invariant-loop-text : goal.invariant-loop-text
invariant-loop-text l = l.copy ≡ take l.text-index l.texts
