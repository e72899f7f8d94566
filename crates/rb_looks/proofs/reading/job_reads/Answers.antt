use Rattle.std.proofs.Common.{◌≡◌, ◌∙◌, IfOk, ap, codes, map, sym, subst}
use Rattle.std.specs.List.{All}
use Rattle.rb_plan.specs.Access.{Access, decision_on, job_decision}
use Rattle.rb_looks.proofs.Readings.{are_jobs, job_reads}
use Rattle.rb_looks.proofs.reading.job_reads.Goals as goal

pub returns : goal.returns
returns c =
    let asked = c.access.inside in
    let jobs = c.args.jobs.now in
    let access : Access = record {
      policies = asked.policies.now;
      caller = asked.caller.now;
      here = asked.context.now;
    } in
    let resources = c.as_slice.ensures.value ∙ c.in_ok-resources.ensures in
    subst (λ access. IfOk c.decide_each.result (λ decisions.
    decisions.items ≡ map (job_decision access (codes "read")) jobs)) c.access.view_is
    (subst (λ told. IfOk c.decide_each.result (λ decisions. decisions.items ≡ told))
    (ap (map (decision_on access (codes "read"))) resources ∙ job_reads access jobs)
    (c.decide_each.ensures asked.caller.now asked.context.now (codes "job")
    c.in_ok-index.ensures
    (subst (All (λ resource. resource.type_name ≡ codes "job")) (sym resources)
    (are_jobs jobs))))
