use Rattle.std.proofs.Common.{Some, ap, sym, ◌∙◌}
use Rattle.rb_plan.specs.Worlds.{job_found}
use Rattle.rb_plan.specs.Judging.{asked_for}
use Rattle.rb_plan.proofs.SoundRuns.{job_sound, project_sound}
use Rattle.rb_plan.proofs.Verdicts.{verdict_told}
use Rattle.rb_plan.proofs.judging.verdict.Goals as goal

pub judge-requires-clause-project : goal.judge-requires-clause-project
judge-requires-clause-project c =
    let found = ap (job_found c.args.world.now) (sym c.as_str.ensures) ∙ sym c.job_found.ensures ∙ c.in-Some.is ∙ ap Some (sym c.found.view_is) in
    project_sound (asked_for c.args.world.now c.args.caller.now c.args.ask.now c.args.draw c.found.inside.project.now c.found.inside.held.now) c.requires.sound found

pub judge-requires-clause-job : goal.judge-requires-clause-job
judge-requires-clause-job c =
    let found = ap (job_found c.args.world.now) (sym c.as_str.ensures) ∙ sym c.job_found.ensures ∙ c.in-Some.is ∙ ap Some (sym c.found.view_is) in
    job_sound (asked_for c.args.world.now c.args.caller.now c.args.ask.now c.args.draw c.found.inside.project.now c.found.inside.held.now) c.requires.sound found

pub returns-in-Some : goal.returns-in-Some
returns-in-Some c =
    let found = ap (job_found c.args.world.now) (sym c.as_str.ensures) ∙ sym c.job_found.ensures ∙ c.in-Some.is ∙ ap Some (sym c.found.view_is) in
    verdict_told c.args.world.now c.args.caller.now c.args.ask.now c.args.draw (record { project = c.found.inside.project.now; held = c.found.inside.held.now }) c.judge.result found c.judge.ensures
