use Rattle.rb_export.proofs.Pushed.{pushed_first}
use Rattle.rb_export.proofs.options.push_checks.Goals as goal

pub returns : goal.returns
returns c =
    pushed_first _ _ _ _ _ _ _ c.in_ok-push_true_if.ensures
    (pushed_first _ _ _ _ _ _ _ c.in_ok-push_true_if-2.ensures
    (pushed_first _ _ _ _ _ _ _ c.in_ok-push_pattern_if_any.ensures
    (pushed_first _ _ _ _ _ _ _ c.in_ok-push_true_if-3.ensures
    (rw c.as_str.ensures at c.push_text_unless.ensures))))
