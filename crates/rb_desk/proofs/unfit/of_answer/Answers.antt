-- No task is answered without a row.
use Rattle.std.proofs.Common.{subst}
use Rattle.rb_tables.specs.Changes.{IsSettled}
use Rattle.rb_desk.proofs.Unfits.{task_is_not_settled}
use Rattle.rb_desk.proofs.unfit.of_answer.Goals as goal

pub unreachable-requires : goal.unreachable-requires
unreachable-requires c =
    let r = c.requires in
    task_is_not_settled r.0 r.1 c.in-Task._task (subst (IsSettled r.0 r.1) c.in-Task.is r.2)
