use Rattle.rb_imports.proofs.JobRules.{keeps_err}
use Rattle.rb_imports.proofs.JobImports.{taken_refused, named_refused, jobs_keep}
use Rattle.rb_imports.proofs.job_changes.check_jobs.Goals as goal

pub returns-in_err-check_ids : goal.returns-in_err-check_ids
returns-in_err-check_ids c past tabled =
    keeps_err _ c.from_residual-in_err-check_ids.result c.in_err-check_ids.field-0.0
    c.from_residual-in_err-check_ids.ensures.1
    (taken_refused c.args.tables.now past tabled c.args.caller.now c.args.checked
    c.args.project.now c.args.jobs.now c.in_err-check_ids.field-0.0
    (rw (c.as_slice-projects.ensures, c.as_slice.ensures, c.in_ok-ids.ensures)
    at c.in_err-check_ids.ensures))

pub returns-in_err-check_names : goal.returns-in_err-check_names
returns-in_err-check_names c past tabled =
    keeps_err _ c.from_residual-in_err-check_names.result c.in_err-check_names.field-0.0
    c.from_residual-in_err-check_names.ensures.1
    (named_refused c.args.tables.now past tabled c.args.caller.now c.args.checked
    c.args.project.now c.args.jobs.now c.in_err-check_names.field-0.0
    (rw (c.as_slice-projects.ensures, c.as_slice.ensures, c.in_ok-ids.ensures)
    at c.in_ok-check_ids.ensures)
    (rw c.as_slice-projects.ensures at c.in_err-check_names.ensures))

pub returns : goal.returns
returns c past tabled =
    jobs_keep c.args.tables.now past tabled c.args.caller.now c.args.checked
    c.args.project.now c.args.jobs.now c.check_job_rights.result
    (rw (c.as_slice-projects.ensures, c.as_slice.ensures, c.in_ok-ids.ensures)
    at c.in_ok-check_ids.ensures)
    (rw c.as_slice-projects.ensures at c.in_ok-check_names.ensures)
    (c.check_job_rights.ensures past tabled)
