use Rattle.std.proofs.Common.{pos, Contains, subst, sym}
use Rattle.rb_board.specs.History.{told_of_seen}
use Rattle.rb_board_tests.proofs.Passes.{moment, task_leaf}
use Rattle.rb_board_tests.proofs.acting.work_one.Goals as goal

pub act-requires-in-Task-clause-may : goal.act-requires-in-Task-clause-may
act-requires-in-Task-clause-may g c = (
  moment,
  subst (Contains (told_of_seen c.act.new.pass.seen).rights.leaves)
      (sym c.start-done.ensures.claimed)
      (task_leaf c.args.pass.now.seen c.act.new.pass.seen c.args.worker (pos 1700000000)
      c.in-Task.task c.in-Task.ensures.acted),
)
