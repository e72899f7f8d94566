use Rattle.std.proofs.Common.{◌≡◌, ◌∙◌, ap, to_z, of_z, w64, rules, SFits}
use Rattle.std.proofs.Math.Facts.{to_z-of_z}
use Rattle.rb_cron.specs.Next.{natural_of}
use Rattle.rb_log.specs.LogState.{moment_by}
use Rattle.rb_runs.proofs.DueJobs.{some_due}
use Rattle.rb_runs.proofs.Ticks.{quiet_is_settled, tick_is_decided}
use Rattle.rb_runs.proofs.ticking.tick.Goals as goal
use Rattle.rb_runs.proofs.ticking.tick.Goals.{After-moment-at}

here : (c : After-moment-at)
    → to_z w64 (of_z w64 c.moment-at.result) ≡ moment_by c.args.tables.now.last c.args.at
here c =
    let fits : SFits w64 c.moment-at.result = search rules in
    to_z-of_z fits ∙ c.moment-at.ensures
    ∙ ap (moment_by c.args.tables.now.last) (to_z-of_z c.ranges.at)

pub first_due-requires : goal.first_due-requires
first_due-requires c = c.requires.1.says.due

pub returns-in-None : goal.returns-in-None
returns-in-None c past tabled =
    quiet_is_settled c.args.tables.now past tabled c.args.at
    (to_z w64 (of_z w64 c.moment-at.result)) (here (goal.at.returns-in-None c).After-moment-at)
    c.in-None.ensures

pub job_at-held-requires : goal.job_at-held-requires
job_at-held-requires c =
    let x = some_due c.args.tables.now.world.projects _ _ c.in-Some.ensures in
    (x.0.held, x.2.held)

pub returns-in_ok-fire-in-Some : goal.returns-in_ok-fire-in-Some
returns-in_ok-fire-in-Some c past tabled =
    let small : SFits w64 c.in-Some.field-0.instant = search rules in
    tick_is_decided c.args.tables.now past tabled c.args.at
    (to_z w64 (of_z w64 c.moment-at.result))
    (here (goal.at.returns-in_ok-fire-in-Some c).After-moment-at)
    c.run_laws.ensures c.in-Some.field-0 c.in-Some.ensures c.job_at-held.result.now
    c.job_at-held.ensures c.instant_number.result
    (c.instant_number.ensures ∙ ap natural_of (to_z-of_z small)) _
    (λ due. c.in_ok-fire-in-Some.ensures past due tabled)
