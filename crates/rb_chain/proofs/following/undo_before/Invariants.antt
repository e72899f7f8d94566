use Rattle.std.proofs.Common.{◌≡◌, ◌≤◌, slice_get}
use Rattle.rb_chain.specs.Nexts.{undos_before}
use Rattle.rb_chain.proofs.following.undo_before.Given as goal

-- the first undo is among those of the runs that are left
abbrev pub invariant-loop-before : goal.invariant-loop-before
invariant-loop-before l = record {
  within : l.before ≤ l.run;
  same : slice_get (undos_before l.runs l.before) 0 ≡ slice_get (undos_before l.runs l.run) 0;
}

abbrev pub decreases-loop-before : goal.decreases-loop-before
decreases-loop-before l = l.before
