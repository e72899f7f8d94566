use Rattle.std.proofs.Common.{subst}
use Rattle.rb_acl.specs.declared.policy.Context.TheVariants.{Project}
use Rattle.rb_plan.specs.declared.world.World.{World}
use Rattle.rb_log.specs.LogState.{log_state}
use Rattle.rb_log.specs.Moves.{access_in}
use Rattle.rb_tables.specs.Changes.{Keeps}
use Rattle.rb_imports.specs.JobImports.{each_keeps, may_import}
use Rattle.rb_imports.proofs.PolicyImports.{checked_keeps}
use Rattle.rb_imports.proofs.job_changes.check_job_rights.Goals as goal

pub returns : goal.returns
returns c past tabled =
    checked_keeps c.args.checked (each_keeps
    (may_import (access_in (log_state past) c.args.project.now c.args.caller.now)
    c.args.project.now c.args.tables.now.world.projects) c.args.jobs.now) c.check_rights.result
    c.if-not-checked.false
    (subst (λ (w : World). Keeps (each_keeps (may_import (record {
      policies = w.policies;
      caller = c.args.caller.now;
      here = Project c.args.project.now;
    }) c.args.project.now c.args.tables.now.world.projects) c.args.jobs.now) c.check_rights.result)
    tabled.says.world
    (rw (c.as_slice.ensures, c.in_ok-of.ensures) at c.check_rights.ensures))
