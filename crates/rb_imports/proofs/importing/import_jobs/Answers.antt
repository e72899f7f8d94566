use Rattle.std.proofs.Common.{map, subst}
use Rattle.std.proofs.Math.Facts.{to_z-of_z}
use Rattle.rb_log.specs.LogState.{log_state, zones_in}
use Rattle.rb_log.specs.declared.call.Call.TheVariants as call
use Rattle.rb_tables.specs.Changes.{Makes}
use Rattle.rb_imports.specs.Importing.{jobs_moved}
use Rattle.rb_imports.specs.JobImports.{imported_job}
use Rattle.rb_imports.proofs.Bodies.{jobs_settled}
use Rattle.rb_imports.proofs.NodeImports.{handed_on}
use Rattle.rb_imports.proofs.JobImports.{jobs_nowhere, jobs_refused, jobs_decided, jobs_read, read_there}
use Rattle.rb_imports.proofs.importing.import_jobs.Goals as goal

pub returns-in_err-place : goal.returns-in_err-place
returns-in_err-place c past tabled =
    handed_on past
    (call.ImportJobs c.args.caller c.args.checked c.args.project c.args.body c.args.at)
    c.from_residual.result c.in_err-place.field-0.0 c.from_residual.ensures.1
    (jobs_nowhere c.args.tables.now past tabled c.args.at c.args.caller c.args.checked
    c.args.project c.args.body c.in_err-place.field-0.0
    (rw c.as_str.ensures at c.in_err-place.ensures.err))

pub returns-in_err-jobs : goal.returns-in_err-jobs
returns-in_err-jobs c past tabled =
    handed_on past
    (call.ImportJobs c.args.caller c.args.checked c.args.project c.args.body c.args.at)
    c.from_residual-in_err-jobs.result c.in_err-jobs.field-0.0
    c.from_residual-in_err-jobs.ensures.1
    (jobs_settled c.args.tables.now past tabled c.args.at c.args.caller c.args.checked
    c.args.project c.args.body c.in_err-jobs.field-0.0 c.in_ok-place.place
    (rw c.as_str.ensures at c.in_ok-place.ensures.ok)
    (rw (c.as_str-2.ensures, c.as_slice.ensures) at c.in_err-jobs.ensures.err))

pub returns-in_err-check_jobs : goal.returns-in_err-check_jobs
returns-in_err-check_jobs c past tabled =
    let body = rw (c.as_str-2.ensures, c.as_slice.ensures) at c.in_ok-jobs.ensures.ok in
    handed_on past
    (call.ImportJobs c.args.caller c.args.checked c.args.project c.args.body c.args.at)
    c.from_residual-in_err-check_jobs.result c.in_err-check_jobs.field-0.0
    c.from_residual-in_err-check_jobs.ensures.1
    (jobs_refused c.args.tables.now past tabled c.args.at c.args.caller c.args.checked
    c.args.project c.args.body c.in_err-check_jobs.field-0.0 body.docs c.in_ok-jobs.jobs.items
    c.in_ok-place.place
    (rw c.as_str.ensures at c.in_ok-place.ensures.ok)
    body.docs_are
    (read_there c.args.tables.now past tabled body.docs c.in_ok-jobs.jobs.items body.read)
    (rw (c.as_str-3.ensures, c.as_slice-2.ensures.value)
    at c.in_err-check_jobs.ensures past tabled))

pub returns : goal.returns
returns c past tabled =
    let body = rw (c.as_str-2.ensures, c.as_slice.ensures) at c.in_ok-jobs.ensures.ok in
    let read =
    read_there c.args.tables.now past tabled body.docs c.in_ok-jobs.jobs.items body.read in
    jobs_decided c.args.tables.now past tabled c.args.at c.args.caller c.args.checked
    c.args.project c.args.body c.jobs_change.result body.docs c.in_ok-jobs.jobs.items
    c.in_ok-place.place
    (rw c.as_str.ensures at c.in_ok-place.ensures.ok)
    body.docs_are read
    (rw (c.as_str-3.ensures, c.as_slice-2.ensures.value)
    at c.in_ok-check_jobs.ensures past tabled)
    (subst (λ z. Makes past (jobs_moved (log_state past) z c.args.caller c.args.checked
    c.args.project c.args.body
    (map (imported_job c.args.project c.args.tables.now.world.projects) c.in_ok-jobs.jobs.items))
    c.jobs_change.result) (to_z-of_z c.ranges.at)
    (c.jobs_change.ensures past tabled
    (jobs_read (zones_in (log_state past)) c.args.body body.docs c.in_ok-jobs.jobs.items
    body.docs_are read)))
