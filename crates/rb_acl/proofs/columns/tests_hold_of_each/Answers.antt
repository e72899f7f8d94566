use Rattle.rb_text.proofs.Marking.{all_more}
use Rattle.rb_acl.specs.Applying.{test_holds}
use Rattle.rb_acl.proofs.columns.tests_hold_of_each.Goals as goal

pub loop-test-preserved : goal.loop-test-preserved
loop-test-preserved c =
    all_more (λ test resource. test_holds resource test) c.args.tests.now c.args.resources.now
    c.loop-test.test-index c.test-item.result _ _ _ c.loop-test-test.true c.test-item.is
    c.loop-test.invariant c.in_ok-others.ensures
    (rw (c.as_slice.ensures.value, c.as_slice-in-loop-test.ensures.value) at c.in_ok-marks-2.ensures)
