use Rattle.std.proofs.Common.{[], ◌∷◌, ◌++◌, ap, sym, ◌∙◌, subst}
use Rattle.std.proofs.lemmas.Result.{err_from_is_err_and}
use Rattle.std.specs.Option.{option_copied}
use Rattle.rb_acl.specs.Deciding.{is_allowed}
use Rattle.rb_plan.specs.Access.{job_run}
use Rattle.rb_plan.specs.Resolved.{Path, label, resolved_reference}
use Rattle.rb_plan.specs.References.{act_visits, first_denied}
use Rattle.rb_plan.specs.Walked.{TellsRefusal, deeper}
use Rattle.rb_plan.specs.Worlds.{referred_job}
use Rattle.rb_plan.proofs.Walks.{same_reference}
use Rattle.rb_plan.proofs.Denied.{deny_on, deny_stops, reference_passed}
use Rattle.rb_plan.proofs.denying.+deny.Goals as goal

pub deny_act-returns-in-Refer : goal.deny_act-returns-in-Refer
deny_act-returns-in-Refer t c =
    let below : Path = c.args.path.now ++ label c.in-Refer.group c.in-Refer.name ∷ [] in
    let h = rw (c.as_str.ensures, c.as_str-in-Refer.ensures) at (c.deny_reference.ensures c.in-Refer.args) in
    rw c.in-Refer.is (subst (λ vs. TellsRefusal (first_denied (job_run c.args.access.now) vs) c.deny_reference.result)
    (same_reference below c.args.path.now (deeper c.args.levels c.args.project.now) below c.in-Refer.args (referred_job c.args.project.now c.in-Refer.group c.in-Refer.name)) h)

pub deny_reference-returns : goal.deny_reference-returns
deny_reference-returns t c =
    let below : Path = c.args.path.now ++ label c.args.group.now c.args.name.now ∷ [] in
    let h = rw (c.as_slice.ensures, c.as_slice-steps.ensures, c.in_ok-below.ensures) at c.deny_steps.ensures in
    let found = sym c.referred_job.ensures ∙ ap option_copied c.in-Some.is in
    let allowed = ap is_allowed (sym c.in_ok-decision.ensures) ∙ sym c.is_allowed.ensures ∙ c.if-not-is_allowed.false in
    λ args. subst (λ o. TellsRefusal (first_denied (job_run c.args.access.now) (act_visits below (resolved_reference (deeper c.args.levels c.args.project.now) below args o))) c.deny_steps.result)
    (sym found)
    (subst (λ o. TellsRefusal o c.deny_steps.result)
    (sym (reference_passed (job_run c.args.access.now) c.args.levels c.args.project.now below c.in-Some.held.now args c.if-levels-eq0.false allowed)) h)

pub deny_steps-returns-in_err-deny_act : goal.deny_steps-returns-in_err-deny_act
deny_steps-returns-in_err-deny_act t c =
    let p = err_from_is_err_and c.from_residual.result c.from_residual.ensures.1 in
    rw (p.1, p.2) (deny_stops (job_run c.args.access.now) (deeper c.args.levels c.args.project.now) c.args.project.now c.args.path.now c.args.steps.now c.loop-step.step-index c.step-item.result
    _ c.in_err-deny_act.field-0.0 c.loop-step-test.true c.step-item.is c.in_err-deny_act.ensures c.loop-step.invariant)

pub deny_steps-loop-step-preserved : goal.deny_steps-loop-step-preserved
deny_steps-loop-step-preserved t c =
    deny_on (job_run c.args.access.now) (deeper c.args.levels c.args.project.now) c.args.project.now c.args.path.now c.args.steps.now c.loop-step.step-index c.step-item.result
    _ c.loop-step-test.true c.step-item.is c.in_ok-deny_act.ensures c.loop-step.invariant
