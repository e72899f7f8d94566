-- The row of a policy file names its import.
use Rattle.std.proofs.Common.{ℤ}
use Rattle.rb_log.specs.Legal.{is_checked}
use Rattle.rb_log.specs.LogState.{log_state}
use Rattle.rb_log.specs.Rows.{row_caller}
use Rattle.rb_log.specs.declared.call.Call.{Call}
use Rattle.rb_log.specs.declared.call.Call.TheVariants.{ImportPolicy}
use Rattle.rb_desk.proofs.Named.{decided_now, names_by, policy_named}
use Rattle.rb_desk.proofs.judging.policy_change.Goals as goal

pub changed-requires : goal.changed-requires
changed-requires c =
    let t = c.requires.tabled in
    let row = c.args.row.now in
    let call : ℤ → Call =
    ImportPolicy c.in_ok-caller.caller (is_checked row) c.in_ok-name.name c.in_ok-body.body in (
      t.0,
      call row.at,
      decided_now t.0 call row.at c.import_policy.result c.requires.at
          (c.import_policy.ensures t.0 t.1),
    )

pub returns : goal.returns
returns c past tabled is =
    let row = c.args.row.now in
    let read : ℤ → Call =
    ImportPolicy c.in_ok-caller.caller (is_checked row) c.in_ok-name.name c.in_ok-body.body in
    let call : Call = ImportPolicy (row_caller row) (is_checked row) row.name row.body row.at in
    names_by past row call c.changed.result (policy_named (log_state past) row is)
    (c.requires.at, rw c.in_ok-caller.ensures.0 at c.in_ok-caller.ensures.1) tt
    (c.changed.ensures past call
    (rw (c.in_ok-caller.ensures.0, c.in_ok-name.ensures, c.in_ok-body.ensures)
    at (decided_now past read row.at c.import_policy.result c.requires.at
    (c.import_policy.ensures past tabled))))
