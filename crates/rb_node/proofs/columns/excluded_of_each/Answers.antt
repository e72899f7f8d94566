use Rattle.rb_text.proofs.Marking.{any_more}
use Rattle.rb_node.specs.Columns.{is_excluded}
use Rattle.rb_node.proofs.columns.excluded_of_each.Goals as goal

pub loop-clause-preserved : goal.loop-clause-preserved
loop-clause-preserved c =
    any_more (λ clause node. is_excluded node clause) c.args.clauses.now c.args.nodes.now
    c.loop-clause.clause-index c.clause-item.result _ _ _ c.loop-clause-test.true c.clause-item.is
    c.loop-clause.invariant c.in_ok-others.ensures
    (rw (c.as_slice.ensures.value, c.as_slice-in-loop-clause.ensures.value)
    at c.in_ok-marks-2.ensures)
