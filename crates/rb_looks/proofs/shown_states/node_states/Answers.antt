use Rattle.std.proofs.Common.{◌∙◌}
use Rattle.rb_looks.proofs.States.{pushed_many, state_pushed}
use Rattle.rb_looks.proofs.shown_states.node_states.Goals as goal

pub loop-name-preserved : goal.loop-name-preserved
loop-name-preserved c = (
  pushed_many c.loop-name.states c.push.new.self c.in_ok-node_state.field-0
      c.loop-name.name-index c.in_ok-push.ensures.ok c.loop-name.invariant.0,
  λ e is tiers.
      state_pushed c.args.execution.now e c.as_slice-name-items.result.now c.loop-name.states
      c.push.new.self c.len-place.result c.loop-name.name-index c.name-item.result
      c.in_ok-node_state.field-0 is tiers c.as_slice-name-items.ensures c.loop-name-test.true
      c.name-item.is (c.len-place.ensures ∙ c.loop-name.invariant.0)
      (c.in_ok-node_state.ensures e is) c.in_ok-push.ensures.ok
      (c.loop-name.invariant.1 e is tiers),
)
