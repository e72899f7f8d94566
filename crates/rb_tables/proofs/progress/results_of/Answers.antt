use Rattle.std.proofs.Common.{ap, arith, length}
use Rattle.rb_marks.specs.Units.{outline}
use Rattle.rb_tables.proofs.Ended.{results_many, row_fits}
use Rattle.rb_tables.proofs.progress.results_of.Goals as goal

pub push_results-requires-clause-memory : goal.push_results-requires-clause-memory
push_results-requires-clause-memory c =
    let flow = c.args.flow.now in
    let p = outline flow.plan in
    omega (
      arith,
      ap length c.loop-node.invariant.1,
      results_many p flow.marks c.loop-node.node,
      c.loop-node.invariant.2,
      c.requires.memory,
      row_fits c.loop-node.node c.args.nodes (length p.steps) c.loop-node-test.true,
    )
