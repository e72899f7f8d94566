use Rattle.std.proofs.Common.{◌∙◌, ◌-◌, false, ap, sym, is_some, option_map, arith}
use Rattle.rb_chain.proofs.Undos.{undo_at_hand, undo_past_hand}
use Rattle.rb_chain.specs.Nexts.{ask_undo, next_by}
use Rattle.rb_chain.specs.declared.run.ChainRun.{ChainRun}
use Rattle.rb_chain.proofs.following.undo_before.Goals as goal

pub returns-then-is_some : goal.returns-then-is_some
returns-then-is_some c =
    let run = c.index-runs-before.result in
    ap (λ x. next_by false (option_map ask_undo x))
    (undo_at_hand c.args.runs.now (c.loop-before.before - 1) c.loop-before.before run _
    (omega (arith, c.loop-before-test.true))
    (omega (arith, c.loop-before-test.true, c.loop-before.invariant.within, c.requires))
    c.index-runs-before.is
    (ap (λ (r : ChainRun). is_some r.undo) c.index-runs-before.is ∙ sym c.is_some.ensures
    ∙ c.if-is_some.true)
    c.loop-before.invariant.same)

pub loop-before-preserved : goal.loop-before-preserved
loop-before-preserved c =
    let run = c.index-runs-before.result in
    record {
      within = omega (arith, c.loop-before.invariant.within);
      same = undo_past_hand c.args.runs.now (c.loop-before.before - 1) c.loop-before.before run _
          (omega (arith, c.loop-before-test.true))
          (omega (arith, c.loop-before-test.true, c.loop-before.invariant.within, c.requires))
          c.index-runs-before.is
          (ap (λ (r : ChainRun). is_some r.undo) c.index-runs-before.is ∙ sym c.is_some.ensures
          ∙ c.if-is_some.false)
          c.loop-before.invariant.same;
    }
