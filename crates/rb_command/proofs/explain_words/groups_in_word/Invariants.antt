use Rattle.std.proofs.Common.{◌≡◌, ◌++◌, drop, map, nat_eq}
use Rattle.rb_causes.specs.Signs.{comma}
use Rattle.rb_causes.specs.Texts.{pieces}
use Rattle.rb_command.proofs.explain_words.groups_in_word.Given as goal

-- the groups so far, and the parts that are left, are all parts
abbrev pub invariant-loop-group : goal.invariant-loop-group
invariant-loop-group l =
    l.groups ++ map (λ part. part.now) (drop l.group-index l.group-items) ≡ pieces (λ b. nat_eq b comma) l.fn.word
