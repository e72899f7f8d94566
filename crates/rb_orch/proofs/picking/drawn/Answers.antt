use Rattle.std.proofs.Common.{◌≡◌, ◌+◌, ◌<◌, ◌/◌, ◌%◌, length, arith, rules, ap, ◌∙◌}
use Rattle.std.proofs.lemmas.List.Edits.{length-remove}
use Rattle.rb_orch.proofs.Steps.{pushed_more, drawn_first, turn_within}
use Rattle.rb_orch.proofs.picking.drawn.Goals as goal

pub loop-step-preserved : goal.loop-step-preserved
loop-step-preserved c =
    let size : c.len.result ≡ length c.loop-step.left.items = search rules in
    let some : 0 < c.len.result = omega
    (arith, size, c.loop-step.invariant.enough, c.loop-step-test.true) in
    let within : (c.generator-x.result / 65536) % c.len.result < length c.loop-step.left.items =
    turn_within _ _ _ size some in
    let less : length c.remove.new.self.items + 1 ≡ length c.loop-step.left.items =
    ap (λ xs. length xs + 1) c.remove.ensures.items ∙ length-remove _ _ within in
    record {
      taken = pushed_more _ _ _ _ _ _ c.in_ok-push.ensures.items
          (drawn_first _ _ _ _ _ _ _ _ c.loop-step-test.true c.generator-x.ensures size within
          c.remove.ensures.value c.remove.ensures.items) c.loop-step.invariant.taken;
      enough = omega (arith, less, c.loop-step.invariant.enough);
    }
