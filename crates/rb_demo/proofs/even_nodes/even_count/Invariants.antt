use Rattle.std.proofs.Common.{◌≡◌, ◌≤◌, length}
use Rattle.rb_demo.specs.Numbers.{draw_at}
use Rattle.rb_demo.specs.Rights.{even_numbers}
use Rattle.rb_demo.proofs.even_nodes.even_count.Given as goal

-- the draw is that of the last node, and the even ones so far are counted
abbrev pub invariant-loop-before : goal.invariant-loop-before
invariant-loop-before l = record {
  drawn : l.draw ≡ draw_at l._before;
  counted : l.even ≡ length (even_numbers l._before);
  few : l.even ≤ l._before;
}
