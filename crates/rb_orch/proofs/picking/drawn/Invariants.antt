use Rattle.std.proofs.Common.{◌≡◌, ◌≤◌, ◌+◌, ◌-◌, ◌++◌, length}
use Rattle.rb_orch.specs.Picking.{drawn}
use Rattle.rb_orch.proofs.picking.drawn.Given as goal

-- what is taken and what the draws left take are all that is drawn; places are left for each draw
abbrev pub invariant-loop-step : goal.invariant-loop-step
invariant-loop-step l = record {
  taken : l.taken.items ++ drawn (l.wanted - l._step) l.left.items l.x
      ≡ drawn l.wanted l.fn.left.items l.fn.x;
  enough : l.wanted ≤ length l.left.items + l._step;
}
