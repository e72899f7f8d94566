use Rattle.std.proofs.Common.{◌≡◌, ◌++◌, string_bytes}
use Rattle.rb_demo.specs.Numbers.{draw_at}
use Rattle.rb_demo.specs.Texts.{demo_nodes_text}
use Rattle.rb_demo.proofs.Written.{left_to_write}
use Rattle.rb_demo.proofs.documents.nodes_text.Given as goal

-- the draw is that of the last node, and what is left to write makes the text whole
abbrev pub invariant-loop-before : goal.invariant-loop-before
invariant-loop-before l =
    (l.draw ≡ draw_at l.before)
    × (string_bytes l.text ++ left_to_write l.nodes l.before ≡ demo_nodes_text l.nodes)
