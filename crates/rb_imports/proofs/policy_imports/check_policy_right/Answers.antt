use Rattle.std.proofs.Common.{codes, subst}
use Rattle.rb_acl.specs.declared.policy.Context.TheVariants.{Application}
use Rattle.rb_plan.specs.declared.world.World.{World}
use Rattle.rb_log.specs.Imports.{may_import_policies}
use Rattle.rb_log.specs.LogState.{log_state}
use Rattle.rb_log.specs.Moves.{permitted_on_kind}
use Rattle.rb_tables.specs.Changes.{Keeps}
use Rattle.rb_imports.proofs.PolicyImports.{checked_keeps}
use Rattle.rb_imports.proofs.policy_imports.check_policy_right.Goals as goal

pub returns : goal.returns
returns c past tabled =
    checked_keeps c.args.checked (may_import_policies (log_state past) c.args.caller.now)
    c.permitted_on_kind.result c.if-not-checked.false
    (subst (λ (w : World). Keeps (permitted_on_kind (record {
      policies = w.policies;
      caller = c.args.caller.now;
      here = Application;
    }) (codes "create") (codes "system_acl")) c.permitted_on_kind.result) tabled.says.world
    c.permitted_on_kind.ensures)
