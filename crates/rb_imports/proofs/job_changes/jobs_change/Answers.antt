use Rattle.std.proofs.Common.{◌∙◌, List, Ok, ap, map, subst, w64}
use Rattle.std.proofs.Math.Facts.{to_z-of_z}
use Rattle.rb_log.specs.LogState.{log_state, moment_by}
use Rattle.rb_log.specs.Rows.{jobs_row}
use Rattle.rb_log.specs.declared.answer.ImportedJob.{ImportedJob}
use Rattle.rb_tables.specs.Changes.{Makes}
use Rattle.rb_imports.specs.Importing.{jobs_moved}
use Rattle.rb_imports.specs.JobImports.{imported_job}
use Rattle.rb_imports.proofs.JobImports.{jobs_new, some_change}
use Rattle.rb_imports.proofs.NodeImports.{wants_memory}
use Rattle.rb_imports.proofs.job_changes.jobs_change.Goals as goal

pub returns-in_err-jobs_effect : goal.returns-in_err-jobs_effect
returns-in_err-jobs_effect c past tabled is =
    wants_memory past (jobs_moved (log_state past) c.args.at c.args.caller.now c.args.checked
    c.args.project c.args.body
    (map (imported_job c.args.project c.args.tables.now.world.projects) c.args.jobs.items))
    c.from_residual-in_err-jobs_effect.result c.from_residual-in_err-jobs_effect.ensures.1

pub returns : goal.returns
returns c past tabled is =
    let done = rw (c.as_str.ensures, c.as_slice-projects.ensures, c.as_slice.ensures.value)
    at c.in_ok-done.ensures in
    subst (λ (js : List ImportedJob). Makes past (jobs_moved (log_state past) c.args.at
    c.args.caller.now c.args.checked c.args.project c.args.body js) (Ok c.imported.result)) done
    (jobs_new c.args.tables.now past tabled c.args.at c.args.caller.now c.args.checked
    c.args.project c.args.body c.in_ok-done.done c.imported.result
    c.saturating_add-version.result c.in_ok-row.row c.in_ok-jobs_effect.field-0
    c.args.jobs.items
    (some_change c.changes_any.result c.in_ok-done.done
    (rw c.as_slice-2.ensures at c.changes_any.ensures) c.if-not-changes_any.false)
    c.saturating_add-version.ensures
    (c.in_ok-row.ensures
    ∙ ap (λ z. jobs_row z c.saturating_add-version.result c.args.checked c.args.project
    c.args.caller.now c.args.body)
    (to_z-of_z {w = w64} (record { sfits = c.moment.type_inv }) ∙ c.moment.ensures
    ∙ ap (moment_by c.args.tables.now.last) (to_z-of_z c.ranges.at)))
    c.imported.ensures
    (c.in_ok-jobs_effect.ensures past tabled)
    is)
