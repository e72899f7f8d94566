use Rattle.std.proofs.Common.{◌∙◌}
use Rattle.rb_board_tests.proofs.Passes.{itself, then_kept, works_still}
use Rattle.rb_board_tests.proofs.acting.work.Goals as goal

pub loop-try-init : goal.loop-try-init
loop-try-init g c = itself c.args.pass.now

pub work_one-heard-requires-clause-board : goal.work_one-heard-requires-clause-board
work_one-heard-requires-clause-board g c = c.loop-try.invariant.same.id ∙ c.requires.board

pub work_one-heard-requires-clause-worker : goal.work_one-heard-requires-clause-worker
work_one-heard-requires-clause-worker g c =
    works_still c.args.pass.now c.loop-try.pass c.args.worker c.loop-try.invariant
    c.requires.worker

pub loop-try-preserved : goal.loop-try-preserved
loop-try-preserved g c =
    then_kept c.args.pass.now c.loop-try.pass c.work_one-heard.new.pass c.loop-try.invariant
    c.work_one-heard.ensures.kept

pub returns-then-eq : goal.returns-then-eq
returns-then-eq g c = record {
  kept = then_kept c.args.pass.now c.loop-try.pass c.work_one-heard.new.pass
      c.loop-try.invariant c.work_one-heard.ensures.kept;
}

pub returns : goal.returns
returns g c = record { kept = c.loop-try.invariant }
