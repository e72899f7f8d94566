use Rattle.std.proofs.Common.{◌≡◌, ◌∙◌, IfOk, ap, codes, subst}
use Rattle.rb_plan.specs.Access.{job_decision}
use Rattle.rb_looks.specs.Looking.{job_ids, permitted}
use Rattle.rb_looks.proofs.Permitted.{permitted_filters}
use Rattle.rb_looks.proofs.shown_executions.readable_ids.Goals as goal

pub returns : goal.returns
returns c =
    let jobs = c.args.jobs.now in
    subst (λ told. IfOk c.permitted_ids.result (λ ids. ids ≡ job_ids told))
    (ap (λ ds. permitted ds jobs) (c.as_slice.ensures.value ∙ c.in_ok-decisions.ensures)
    ∙ permitted_filters (job_decision c.args.access.now (codes "read")) jobs)
    c.permitted_ids.ensures
