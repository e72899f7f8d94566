use Rattle.std.proofs.Common.{◌≡◌, ◌++◌, drop, nat_eq}
use Rattle.rb_causes.specs.Texts.{pieces}
use Rattle.rb_node.specs.Values.{onto_piece}
use Rattle.rb_node.proofs.compiling.pieces.Given as goal

-- the pieces so far, with the one at hand and those of the rest, are all
abbrev pub invariant-loop-c : goal.invariant-loop-c
invariant-loop-c l = l.cutter.done.items
    ++ onto_piece l.cutter.piece (pieces (λ c. nat_eq c l.sign) (drop l.c-index l.chars))
    ≡ pieces (λ c. nat_eq c l.sign) l.chars
