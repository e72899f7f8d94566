use Rattle.std.proofs.Common.{subst}
use Rattle.rb_plan.specs.Access.{job_run}
use Rattle.rb_plan.specs.Walked.{TellsRefusal}
use Rattle.rb_plan.proofs.Denied.{denied_is}
use Rattle.rb_plan.proofs.denying.deny_references.Goals as goal

pub returns : goal.returns
returns c =
    let h = rw (c.as_slice.ensures, c.new-here.ensures, c.as_slice-steps.ensures) at c.deny_steps.ensures in
    subst (λ o. TellsRefusal o c.deny_steps.result) (denied_is (job_run c.args.access.now) c.args.project.now c.args.held.now) h
