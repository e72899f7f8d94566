use Rattle.std.proofs.Common.{◌∙◌, ap, find, bytes_eq}
use Rattle.rb_plan.proofs.FoundJobs.{found_at}
use Rattle.rb_plan.proofs.finding.found_among.Goals as goal

pub returns-in-Some : goal.returns-in-Some
returns-in-Some c =
    found_at c.args.id.now c.args.projects.now c.loop-project.project-index c.project-item.result
    c.in-Some.held.now _ c.loop-project-test.true c.project-item.is
    (c.in-Some.ensures ∙ ap (find (λ h. bytes_eq h.id c.args.id.now)) c.as_slice.ensures)
    c.loop-project.invariant
