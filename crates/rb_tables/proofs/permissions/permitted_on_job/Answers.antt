use Rattle.std.proofs.Common.{ap, sym}
use Rattle.rb_plan.specs.Access.{job_resource}
use Rattle.rb_tables.proofs.Rights.{access_is_named}
use Rattle.rb_tables.proofs.permissions.permitted_on_job.Goals as goal

pub permitted-requires : goal.permitted-requires
permitted-requires c =
    access_is_named c.args.access.now c.access.inside.policies.now c.args.action.now
    (job_resource c.args.held.now) c.in_ok-decision.decision
    (sym (ap (λ a. a.policies) c.access.view_is)) c.in_ok-decision.ensures
