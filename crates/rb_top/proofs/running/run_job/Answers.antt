use Rattle.std.proofs.Common.{ap, sym, ◌∙◌, subst}
use Rattle.rb_causes.specs.declared.trouble.Trouble.TheVariants.{NoMemory}
use Rattle.rb_marks.specs.FlowState.{FlowState}
use Rattle.rb_marks.specs.Sound.{IsSound}
use Rattle.rb_marks.specs.Units.{outline}
use Rattle.rb_top.specs.Drill.{accepted, is_success}
use Rattle.rb_top.proofs.Judging.{accepted_cut, job_broke, job_played, job_cut}
use Rattle.rb_top.proofs.Plans.{plan_is_sound, same_plan}
use Rattle.rb_top.proofs.PlayedLemmas.{broke_here, plays_handed, plays_printed}
use Rattle.rb_top.proofs.running.run_job.Goals as goal

pub returns-in_err-plan : goal.returns-in_err-plan
returns-in_err-plan g c user =
    plays_handed c.from_residual.result NoMemory c.from_residual.ensures.1 _ _ _ _ _ _
    (broke_here (accepted c.args.number user c.args.nodes.now c.args.job.now) _ _ (accepted_cut c.args.number user c.args.nodes.now c.args.job.now))

pub open-requires : goal.open-requires
open-requires g c =
    subst IsSound (sym c.in_ok-plan.ensures)
    (plan_is_sound c.args.nodes.now c.args.job.now c.requires.steps c.requires.numbered.0 c.requires.numbered.1)

pub returns-in_err-flow : goal.returns-in_err-flow
returns-in_err-flow g c user =
    plays_handed c.from_residual-in_err-flow.result NoMemory c.from_residual-in_err-flow.ensures.1 _ _ _ _ _ _
    (broke_here (accepted c.args.number user c.args.nodes.now c.args.job.now) _ _ (accepted_cut c.args.number user c.args.nodes.now c.args.job.now))

pub returns-in_err-play_starts : goal.returns-in_err-play_starts
returns-in_err-play_starts g c user =
    plays_handed c.from_residual-in_err-play_starts.result c.in_err-play_starts.field-0.0 c.from_residual-in_err-play_starts.ensures.1 _ _ _ _ _ _
    (job_broke c.args.number user c.args.nodes.now c.args.job.now _ (ap (λ (f : FlowState). f.marks) c.in_ok-flow.ensures) (c.in_err-play_starts.ensures.plays user))

pub returns : goal.returns
returns g c user =
    let number = c.args.number in
    let nodes = c.args.nodes.now in
    let job = c.args.job.now in
    let marks = c.play_starts.new.flow.marks in
    let plan = outline c.play_starts.new.flow.plan in
    let begun = ap (λ (f : FlowState). f.marks) c.in_ok-flow.ensures in
    let planned = same_plan c.in_ok-plan.plan c.in_ok-flow.flow c.play_starts.new.flow c.in_ok-plan.ensures (ap (λ (f : FlowState). f.plan) c.in_ok-flow.ensures) c.in_ok-play_starts.ensures.plan in
    let good = c.is_success.ensures ∙ ap is_success c.status.ensures in
    let played = c.in_ok-play_starts.ensures.plays user in
    plays_printed _ _ _ c.print_over.result c.print_over.ensures
    (λ done. job_played number user nodes job _ marks plan c.is_success.result begun planned good _ played)
    (λ trouble. job_cut number user nodes job _ marks plan c.is_success.result begun planned good _ played)
