use Rattle.std.proofs.Common.{◌∙◌, ℕ, [], ◌∷◌, ◌++◌, ap, sym, arith}
use Rattle.rb_marks.specs.Units.{step_at}
use Rattle.rb_marks.specs.declared.mark.StepResult.{StepResult}
use Rattle.rb_tables.proofs.Ended.{one_more}
use Rattle.rb_looks.proofs.shown_states.node_steps.Goals as goal

pub loop-step-preserved : goal.loop-step-preserved
loop-step-preserved c = (
  omega (arith, c.loop-step-test.true),
  λ e is low.
      let f : ℕ → StepResult = step_at e.accepted.plan e.marks c.args.node in
      c.in_ok-push.ensures.ok
      ∙ ap (λ r. c.loop-step.results ++ r ∷ [])
      (c.result.ensures e is low
      (omega (arith, c.loop-step-test.true, c.steps-step-end.ensures e is)))
      ∙ ap (λ rs. rs ++ f c.loop-step.step ∷ []) (c.loop-step.invariant.1 e is low)
      ∙ sym (one_more f c.loop-step.step),
)
