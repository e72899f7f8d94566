use Rattle.std.proofs.Common.{◌≡◌, ◌∙◌, ℕ, List, [], ◌∷◌, codes, map, filter, ap, refl}
use Rattle.rb_acl.specs.declared.policy.Decision.{Decision}
use Rattle.rb_plan.specs.Access.{Access, job_decision}
use Rattle.rb_plan.specs.declared.world.HeldJob.{HeldJob}
use Rattle.rb_plan.specs.declared.world.Project.{Project}
use Rattle.rb_tables.specs.Worlds.{job_in}
use Rattle.rb_log.specs.Looks.{job_view}
use Rattle.rb_log.specs.declared.shown.JobView.{JobView}
use Rattle.rb_looks.specs.Looking.{may_read, permitted, readable_jobs, shown_in}
use Rattle.rb_looks.proofs.Permitted.{permitted_filters}
use Rattle.rb_looks.proofs.shown_jobs.job_views.Goals as goal

-- the jobs of a project as they are shown
shown_each : (p : Project) (jobs : List HeldJob)
    → map (shown_in p.name) jobs ≡ map job_view (map (job_in p) jobs)
shown_each p [] = refl
shown_each p (j ∷ js) = ap (λ views. shown_in p.name j ∷ views) (shown_each p js)

readable_are_shown : (access : Access) (p : Project) (views : List JobView) (name : List ℕ)
    (ds : List Decision) (jobs : List HeldJob) → views ≡ map (shown_in name) (permitted ds jobs)
    → name ≡ p.name → ds ≡ map (job_decision access (codes "read")) jobs → jobs ≡ p.jobs
    → views ≡ map job_view (readable_jobs access p)
readable_are_shown access p views name ds jobs is named decided there =
    is
    ∙ ap (λ n. map (shown_in n) (permitted ds jobs)) named
    ∙ ap (λ l. map (shown_in p.name) (permitted l jobs)) decided
    ∙ ap (map (shown_in p.name)) (permitted_filters (job_decision access (codes "read")) jobs)
    ∙ ap (λ l. map (shown_in p.name) (filter (may_read access) l)) there
    ∙ shown_each p (filter (may_read access) p.jobs)

pub returns : goal.returns
returns c =
    let access = c.args.access.now in
    let p = c.args.project.now in
    c.in_order.ensures (readable_jobs access p)
    (readable_are_shown access p c.in_ok-permitted_views.field-0.items c.as_str-name.result.now
    c.as_slice.result.now c.as_slice-jobs.result.now c.in_ok-permitted_views.ensures
    c.as_str-name.ensures (c.as_slice.ensures.value ∙ c.in_ok-decisions.ensures)
    c.as_slice-jobs.ensures)
