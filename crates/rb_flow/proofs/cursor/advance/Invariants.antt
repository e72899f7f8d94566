use Rattle.std.proofs.Common.{◌≡◌, ◌+◌, false, Some, map}
use Rattle.rb_marks.specs.View.{step_tree}
use Rattle.rb_flow.specs.Cursors.{passed}
use Rattle.rb_flow.specs.Leaves.{result_in}
use Rattle.rb_flow.proofs.cursor.advance.Given as goal

abbrev pub invariant-loop-step : goal.invariant-loop-step
invariant-loop-step l = record {
  at : l.now.at ≡ l.fn.cursor.at + l.step-index;
  passed : passed (result_in l.row) l.keepgoing false (map step_tree l.steps) l.now.at
      ≡ Some l.now.bad;
}
