use Rattle.std.proofs.Common.{◌≡◌, ℕ, ◌+◌, ◌<◌, false, List, length, map, drop, get_or, add-one, sym, ap, ◌∙◌, arith, length-drop}
use Rattle.std.proofs.lemmas.List.{get_or-drop, get_or-map, length-map}
use Rattle.rb_marks.specs.View.{step_tree}
use Rattle.rb_flow.specs.Cursors.{goes_on}
use Rattle.rb_flow.specs.Leaves.{result_in}
use Rattle.rb_flow.proofs.Passing.{passed_more, passed_within}
use Rattle.rb_flow.proofs.cursor.advance.Goals as goal

-- the item of the rest is that of the whole
item_is : {X Y : Type 0} (f : X → Y) (xs items : List X) (a i at : ℕ) (x : X)
    → items ≡ drop a xs → x ≡ get_or items i x → at ≡ a + i → at < length xs
    → get_or (map f xs) at (f x) ≡ f x
item_is f xs items a i at x e is sum h =
    get_or-map f xs at x (f x) h
    ∙ ap f (ap (λ k. get_or xs k x) sum ∙ sym (get_or-drop a xs i x)
    ∙ ap (λ l. get_or l i x) (sym e) ∙ sym is)

pub steps_from-step-items-requires : goal.steps_from-step-items-requires
steps_from-step-items-requires c =
    let within = passed_within (result_in c.args.row.now) c.args.keepgoing false c.args.cursor.bad
    (map step_tree c.args.steps.now) c.args.cursor.at c.requires in
    let same = length-map c.args.steps.now step_tree in
    omega (arith, within, same)

pub loop-step-preserved : goal.loop-step-preserved
loop-step-preserved c =
    let steps = c.args.steps.now in
    let at = c.loop-step.now.at in
    let rest = length-drop c.args.cursor.at steps in
    let len = ap length c.steps_from-step-items.ensures in
    let within : at < length steps =
    omega (arith, c.loop-step-test.true, c.loop-step.invariant.at, rest, len) in
    let same = length-map steps step_tree in
    let item = item_is step_tree steps c.steps_from-step-items.result.now c.args.cursor.at
    c.loop-step.step-index at c.step-item.result c.steps_from-step-items.ensures c.step-item.is
    c.loop-step.invariant.at within in
    record {
      at = omega (arith, c.loop-step.invariant.at);
      passed = rw add-one (passed_more (result_in c.args.row.now) c.args.keepgoing false
          c.loop-step.now.bad c.in-Some.bad (map step_tree steps) at
          (step_tree c.step-item.result) c.loop-step.invariant.passed (omega (arith, within, same))
          item
          (ap (λ r. goes_on r c.args.keepgoing c.loop-step.now.bad) (sym c.step_result.ensures)
          ∙ sym c.goes_on.ensures ∙ c.in-Some.is));
    }
