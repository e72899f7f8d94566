use Rattle.std.proofs.Common.{rules, [], ◌∷◌, map, ap, sym, ◌∙◌, subst}
use Rattle.std.proofs.lemmas.Result.{err_from_is_err_and}
use Rattle.std.proofs.lemmas.List.{map-append}
use Rattle.std.specs.Option.{option_copied}
use Rattle.rb_marks.specs.View.{act_tree, step_tree}
use Rattle.rb_plan.specs.Resolved.{resolved_act, resolved_steps}
use Rattle.rb_plan.specs.Walked.{deeper}
use Rattle.rb_plan.proofs.PlanTrees.{sub_tree, tree_of_step}
use Rattle.rb_plan.proofs.Going.{Going, below_few, below_none, below_put, below_refused, below_tree, going_on, handler_room, step_is, tree_at}
use Rattle.rb_plan.proofs.inlining.+inline.Goals as goal

pub inline_reference-inline_steps-requires : goal.inline_reference-inline_steps-requires
inline_reference-inline_steps-requires t c = (
  search rules,
  below_few c.args.levels c.args.project.now c.args.path.now c.args.args.now c.in-Some.held.now (option_copied c.args.held) c.as_slice-steps.result.now _
      c.if-levels-eq0.false (ap option_copied c.in-Some.is) c.as_slice-steps.ensures c.requires,
)

pub inline_reference-returns-in_err-steps-in-Some-clause-refused : goal.inline_reference-returns-in_err-steps-in-Some-clause-refused
inline_reference-returns-in_err-steps-in-Some-clause-refused t c =
    let p = err_from_is_err_and c.from_residual-in_err-steps-in-Some.result c.from_residual-in_err-steps-in-Some.ensures.1 in
    rw (p.1, p.2) (below_refused c.args.levels c.args.project.now c.args.path.now c.args.args.now c.in-Some.held.now (option_copied c.args.held) c.as_slice-steps.result.now
    c.args.site.now c.in_ok-below-in-Some.below c.in_err-steps-in-Some.field-0.0 c.if-levels-eq0.false (ap option_copied c.in-Some.is) c.as_slice-steps.ensures
    c.in_ok-below-in-Some.ensures.refused c.in_ok-below-in-Some.ensures.site c.in_err-steps-in-Some.ensures.refused)

pub inline_reference-returns-in_ok-steps-in-Some-clause-refused : goal.inline_reference-returns-in_ok-steps-in-Some-clause-refused
inline_reference-returns-in_ok-steps-in-Some-clause-refused t c =
    below_none c.args.levels c.args.project.now c.args.path.now c.args.args.now c.in-Some.held.now (option_copied c.args.held) c.as_slice-steps.result.now
    c.args.site.now c.in_ok-below-in-Some.below c.if-levels-eq0.false (ap option_copied c.in-Some.is) c.as_slice-steps.ensures
    c.in_ok-below-in-Some.ensures.refused c.in_ok-below-in-Some.ensures.site c.in_ok-steps-in-Some.ensures.refused

pub inline_reference-returns-in_ok-steps-in-Some-clause-act : goal.inline_reference-returns-in_ok-steps-in-Some-clause-act
inline_reference-returns-in_ok-steps-in-Some-clause-act t c =
    let tree = below_tree c.args.levels c.args.project.now c.args.path.now c.args.args.now c.in-Some.held.now (option_copied c.args.held) c.as_slice-steps.result.now _ (map step_tree c.in_ok-steps-in-Some.steps.items)
    c.if-levels-eq0.false (ap option_copied c.in-Some.is) c.as_slice-steps.ensures c.in_ok-steps-in-Some.ensures.steps in
    sub_tree (record { keepgoing = c.in-Some.held.now.job.keepgoing; steps = c.in_ok-steps-in-Some.steps }) ∙ tree

pub inline_reference-returns-in_ok-steps-in-Some-clause-put : goal.inline_reference-returns-in_ok-steps-in-Some-clause-put
inline_reference-returns-in_ok-steps-in-Some-clause-put t c =
    below_put c.args.levels c.args.project.now c.args.path.now c.args.args.now c.in-Some.held.now (option_copied c.args.held) c.as_slice-steps.result.now
    c.args.site.now c.in_ok-below-in-Some.below _ _ c.if-levels-eq0.false (ap option_copied c.in-Some.is) c.as_slice-steps.ensures
    c.in_ok-below-in-Some.ensures.site c.in_ok-steps-in-Some.ensures.put

pub inline_step-put_handler-requires : goal.inline_step-put_handler-requires
inline_step-put_handler-requires t c =
    handler_room c.args.site.now (resolved_act (deeper c.args.levels c.args.project.now) c.args.project.now c.args.path.now c.args.step.now.act) c.args.step.now.handler
    c.args.commands.now.items c.inline_act.new.commands.items c.in_ok-act.ensures.put c.requires

pub inline_step-returns-clause-step : goal.inline_step-returns-clause-step
inline_step-returns-clause-step t c =
    let tree = step_is c.args.site.now (resolved_act (deeper c.args.levels c.args.project.now) c.args.project.now c.args.path.now c.args.step.now.act) c.args.step.now.handler c.args.step.now.keep_on_success
    c.args.commands.now.items c.inline_act.new.commands.items (act_tree c.in_ok-act.act) c.in_ok-handler.handler c.in_ok-act.ensures.put c.in_ok-act.ensures.act c.in_ok-handler.ensures.slot in
    tree_of_step (record { act = c.in_ok-act.act; handler = c.in_ok-handler.handler; keep_on_success = c.args.step.now.keep_on_success }) ∙ tree

pub inline_steps-loop-step-preserved : goal.inline_steps-loop-step-preserved
inline_steps-loop-step-preserved t c =
    let below = deeper c.args.levels c.args.project.now in
    let all = resolved_steps below c.args.project.now c.args.path.now c.args.steps.now in
    let going = subst (λ tree. Going c.args.site.now c.args.commands.now.items all tree c.loop-step.commands.items (map step_tree c.loop-step.done))
    (tree_at below c.args.project.now c.args.path.now c.args.steps.now c.loop-step.step-index c.step-item.result c.loop-step-test.true c.step-item.is) c.loop-step.invariant in
    let pushed = ap (map step_tree) c.in_ok-push.ensures.ok ∙ map-append step_tree c.loop-step.done (c.in_ok-inline_step.field-0 ∷ []) in
    subst (Going c.args.site.now c.args.commands.now.items all _ c.inline_step.new.commands.items) (sym pushed)
    (going_on c.args.site.now c.args.commands.now.items all _ c.step-item.result.handler c.step-item.result.keep_on_success _ c.loop-step.commands.items c.inline_step.new.commands.items
    (map step_tree c.loop-step.done) (step_tree c.in_ok-inline_step.field-0) going c.in_ok-inline_step.ensures.refused c.in_ok-inline_step.ensures.put c.in_ok-inline_step.ensures.step)
