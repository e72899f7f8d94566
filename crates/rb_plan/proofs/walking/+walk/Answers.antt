use Rattle.std.proofs.Common.{[], ◌∷◌, ◌++◌, ap, sym, ◌∙◌, subst}
use Rattle.std.proofs.lemmas.Result.{err_from_is_err_and}
use Rattle.std.specs.Option.{option_copied}
use Rattle.rb_plan.specs.Resolved.{Path, label, resolved_act}
use Rattle.rb_plan.specs.References.{act_visits, handler_visits}
use Rattle.rb_plan.specs.Walked.{walked, Walks, deeper}
use Rattle.rb_plan.specs.Worlds.{referred_job}
use Rattle.rb_plan.proofs.Walks.{walks_stop, walks_on, step_on, step_stops, same_reference, reference_walked}
use Rattle.rb_plan.proofs.walking.+walk.Goals as goal

pub walk_act-returns-in-Refer : goal.walk_act-returns-in-Refer
walk_act-returns-in-Refer t c =
    let below : Path = c.args.path.now ++ label c.in-Refer.group c.in-Refer.name ∷ [] in
    let h = rw (c.as_str.ensures, c.as_str-in-Refer.ensures) at (c.walk_reference.ensures c.in-Refer.args) in
    rw c.in-Refer.is (subst (λ vs. Walks (walked c.args.left vs) c.walk_reference.result)
    (same_reference below c.args.path.now (deeper c.args.levels c.args.project.now) below c.in-Refer.args (referred_job c.args.project.now c.in-Refer.group c.in-Refer.name)) h)

pub walk_reference-returns-else-levels-eq0 : goal.walk_reference-returns-else-levels-eq0
walk_reference-returns-else-levels-eq0 t c =
    let below : Path = c.args.path.now ++ label c.args.group.now c.args.name.now ∷ [] in
    let h = rw (c.as_slice.ensures, c.as_slice-steps.ensures, c.in_ok-below.ensures) at c.walk_steps.ensures in
    reference_walked c.args.levels c.args.project.now below (referred_job c.args.project.now c.args.group.now c.args.name.now) c.in-Some.held.now c.args.left c.walk_steps.result
    c.if-levels-eq0.false (sym c.referred_job.ensures ∙ ap option_copied c.in-Some.is) h

pub walk_step-returns-in_err-rest : goal.walk_step-returns-in_err-rest
walk_step-returns-in_err-rest t c =
    let p = err_from_is_err_and c.from_residual.result c.from_residual.ensures.1 in
    rw (p.1, p.2) (walks_stop c.args.left (act_visits c.args.path.now (resolved_act (deeper c.args.levels c.args.project.now) c.args.project.now c.args.path.now c.args.step.now.act))
    (handler_visits c.args.path.now c.args.step.now.handler) c.in_err-rest.field-0.0 c.in_err-rest.ensures)

pub walk_step-returns : goal.walk_step-returns
walk_step-returns t c =
    subst (λ w. Walks w c.walk_handler.result)
    (sym (walks_on c.args.left c.in_ok-rest.rest (act_visits c.args.path.now (resolved_act (deeper c.args.levels c.args.project.now) c.args.project.now c.args.path.now c.args.step.now.act))
    (handler_visits c.args.path.now c.args.step.now.handler) c.in_ok-rest.ensures)) c.walk_handler.ensures

pub walk_steps-returns-in_err-rest : goal.walk_steps-returns-in_err-rest
walk_steps-returns-in_err-rest t c =
    let p = err_from_is_err_and c.from_residual.result c.from_residual.ensures.1 in
    rw (p.1, p.2) (step_stops (deeper c.args.levels c.args.project.now) c.args.project.now c.args.path.now c.args.steps.now c.loop-step.step-index c.step-item.result
    _ c.loop-step.rest c.in_err-rest.field-0.0 c.loop-step-test.true c.step-item.is c.in_err-rest.ensures c.loop-step.invariant)

pub walk_steps-loop-step-preserved : goal.walk_steps-loop-step-preserved
walk_steps-loop-step-preserved t c =
    step_on (deeper c.args.levels c.args.project.now) c.args.project.now c.args.path.now c.args.steps.now c.loop-step.step-index c.step-item.result
    _ c.loop-step.rest c.in_ok-rest.rest c.loop-step-test.true c.step-item.is c.in_ok-rest.ensures c.loop-step.invariant
