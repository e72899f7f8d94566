use Rattle.std.proofs.lemmas.Result.{err_from_is_err_and}
use Rattle.rb_plan.specs.Judging.{asked_for}
use Rattle.rb_plan.specs.Verdict.{chosen_of, may_run_on}
use Rattle.rb_plan.proofs.Verdicts.{access_in, commands_counted, few_commands, inner_pass, jobs_pass, judged_by_parts, options_pass, runnable_few, site_in, sorted_in, stopped_at_options, stopped_at_site, stopped_by_nodes, stopped_in}
use Rattle.rb_plan.proofs.judging.judge.Goals as goal

pub returns-in_err-check_jobs : goal.returns-in_err-check_jobs
returns-in_err-check_jobs c =
    let p = err_from_is_err_and c.from_residual-in_err-check_jobs.result c.from_residual-in_err-check_jobs.ensures.1 in
    let a = asked_for c.args.world.now c.args.caller.now c.args.ask.now c.args.draw c.args.project.now c.args.held.now in
    rw (p.1, p.2) (stopped_in a c.in_ok-copy.field-0 c.in_err-check_jobs.field-0.0 c.in_ok-copy.ensures c.in_err-check_jobs.ensures)

pub returns-in_err-site : goal.returns-in_err-site
returns-in_err-site c =
    let p = err_from_is_err_and c.from_residual-in_err-site.result c.from_residual-in_err-site.ensures.1 in
    let a = asked_for c.args.world.now c.args.caller.now c.args.ask.now c.args.draw c.args.project.now c.args.held.now in
    rw (p.1, p.2) (stopped_at_options a c.as_slice.result.now c.in_err-site.field-0.0 c.as_slice.ensures
    (jobs_pass a c.in_ok-copy.field-0 c.in_ok-copy.ensures c.in_ok-check_jobs.ensures) c.in_err-site.ensures.refused)

pub inline_job-requires : goal.inline_job-requires
inline_job-requires c = few_commands c.args.world.now (access_in c.args.world.now c.args.caller.now c.in_ok-copy.field-0) c.args.project.now c.args.held.now c.in_ok-check_jobs.ensures

pub returns-in_err-inlined : goal.returns-in_err-inlined
returns-in_err-inlined c =
    let p = err_from_is_err_and c.from_residual-in_err-inlined.result c.from_residual-in_err-inlined.ensures.1 in
    let a = asked_for c.args.world.now c.args.caller.now c.args.ask.now c.args.draw c.args.project.now c.args.held.now in
    rw (p.1, p.2) (stopped_at_site a c.in_ok-site.site c.in_err-inlined.field-0.0
    (jobs_pass a c.in_ok-copy.field-0 c.in_ok-copy.ensures c.in_ok-check_jobs.ensures)
    (options_pass a c.as_slice.result.now c.as_slice.ensures c.in_ok-site.ensures.refused)
    (site_in a c.in_ok-site.site c.as_slice.result.now c.as_slice.ensures c.in_ok-site.ensures.site)
    c.in_err-inlined.ensures.refused)

pub returns-in_err-check_nodes : goal.returns-in_err-check_nodes
returns-in_err-check_nodes c =
    let p = err_from_is_err_and c.from_residual-in_err-check_nodes.result c.from_residual-in_err-check_nodes.ensures.1 in
    let a = asked_for c.args.world.now c.args.caller.now c.args.ask.now c.args.draw c.args.project.now c.args.held.now in
    let here = site_in a c.in_ok-site.site c.as_slice.result.now c.as_slice.ensures c.in_ok-site.ensures.site in
    let picked = sorted_in a c.in_ok-copy.field-0 c.as_slice-nodes.result.now c.in_ok-sorted.sorted c.in_ok-copy.ensures c.as_slice-nodes.ensures c.in_ok-sorted.ensures in
    rw (p.1, p.2) (stopped_by_nodes a c.in_err-check_nodes.field-0.0
    (jobs_pass a c.in_ok-copy.field-0 c.in_ok-copy.ensures c.in_ok-check_jobs.ensures)
    (options_pass a c.as_slice.result.now c.as_slice.ensures c.in_ok-site.ensures.refused)
    (inner_pass a c.in_ok-site.site here c.in_ok-inlined.ensures.refused)
    (c.in_err-check_nodes.ensures (may_run_on a) (chosen_of a) picked))

pub accept-requires-clause-nodes : goal.accept-requires-clause-nodes
accept-requires-clause-nodes c =
    let a = asked_for c.args.world.now c.args.caller.now c.args.ask.now c.args.draw c.args.project.now c.args.held.now in
    runnable_few a c.in_ok-sorted.sorted c.requires.project
    (sorted_in a c.in_ok-copy.field-0 c.as_slice-nodes.result.now c.in_ok-sorted.sorted c.in_ok-copy.ensures c.as_slice-nodes.ensures c.in_ok-sorted.ensures)

pub accept-requires-clause-commands : goal.accept-requires-clause-commands
accept-requires-clause-commands c =
    commands_counted c.args.project.now c.args.held.now c.in_ok-site.site c.in_ok-inlined.inlined c.in_ok-inlined.ensures.inlined
    (few_commands c.args.world.now (access_in c.args.world.now c.args.caller.now c.in_ok-copy.field-0) c.args.project.now c.args.held.now c.in_ok-check_jobs.ensures)

pub returns : goal.returns
returns c =
    let a = asked_for c.args.world.now c.args.caller.now c.args.ask.now c.args.draw c.args.project.now c.args.held.now in
    let here = site_in a c.in_ok-site.site c.as_slice.result.now c.as_slice.ensures c.in_ok-site.ensures.site in
    let picked = sorted_in a c.in_ok-copy.field-0 c.as_slice-nodes.result.now c.in_ok-sorted.sorted c.in_ok-copy.ensures c.as_slice-nodes.ensures c.in_ok-sorted.ensures in
    judged_by_parts a c.in_ok-site.site c.into_values.result c.in_ok-inlined.inlined c.in_ok-sorted.sorted c.accept.result
    (jobs_pass a c.in_ok-copy.field-0 c.in_ok-copy.ensures c.in_ok-check_jobs.ensures)
    (options_pass a c.as_slice.result.now c.as_slice.ensures c.in_ok-site.ensures.refused)
    c.in_ok-inlined.ensures.refused
    (c.in_ok-check_nodes.ensures (may_run_on a) (chosen_of a) picked)
    here c.into_values.ensures c.in_ok-inlined.ensures.inlined picked c.accept.ensures.refused c.accept.ensures.accepted
