use Rattle.rb_top.proofs.Scripts.{step_added}
use Rattle.rb_top.proofs.reading.add_step.Goals as goal

pub returns-in_ok-push-2 : goal.returns-in_ok-push-2
returns-in_ok-push-2 c =
    step_added _ _ _ _ c.args.words c.in-Some.job c.in-Some.ensures.last c.in_ok-push.ensures.ok c.in_ok-push-2.ensures.ok
