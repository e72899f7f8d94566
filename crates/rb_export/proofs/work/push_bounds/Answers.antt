use Rattle.rb_export.proofs.Pushed.{pushed_first}
use Rattle.rb_export.proofs.work.push_bounds.Goals as goal

pub returns : goal.returns
returns c =
    pushed_first _ _ _ _ _ _ _ c.in_ok-push_number_unless.ensures
    (pushed_first _ _ _ _ _ _ _ c.in_ok-push_true_if.ensures c.push_false_unless.ensures)
