use Rattle.std.proofs.Common.{ap, arith, length}
use Rattle.rb_marks.specs.Units.{outline, step_at}
use Rattle.rb_tables.proofs.Ended.{steps_so_far}
use Rattle.rb_tables.proofs.progress.push_results.Goals as goal

pub push_reserved-requires : goal.push_reserved-requires
push_reserved-requires c =
    let flow = c.args.flow.now in
    omega (
      arith,
      c.loop-step.results.ok.0,
      ap length c.loop-step.invariant.1,
      steps_so_far c.args.results.now.items (step_at (outline flow.plan) flow.marks c.args.node)
          c.loop-step.step,
      c.loop-step.invariant.2,
      c.requires.memory,
      c.loop-step-test.true,
      c.steps-step-end.ensures,
    )
