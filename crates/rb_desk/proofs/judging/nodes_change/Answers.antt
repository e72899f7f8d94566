-- The row of nodes names their import.
use Rattle.std.proofs.Common.{ℤ}
use Rattle.rb_log.specs.LogState.{log_state}
use Rattle.rb_log.specs.declared.call.Call.{Call}
use Rattle.rb_log.specs.declared.call.Call.TheVariants.{ImportNodes}
use Rattle.rb_desk.proofs.Named.{decided_now, names_by, nodes_named}
use Rattle.rb_desk.proofs.judging.nodes_change.Goals as goal

pub changed-requires : goal.changed-requires
changed-requires c =
    let t = c.requires.tabled in
    let at = c.args.row.now.at in
    let call : ℤ → Call = ImportNodes c.in_ok-project.project c.in_ok-body.body in (
      t.0,
      call at,
      decided_now t.0 call at c.import_nodes.result c.requires.at
          (c.import_nodes.ensures t.0 t.1),
    )

pub returns : goal.returns
returns c past tabled is =
    let row = c.args.row.now in
    let read : ℤ → Call = ImportNodes c.in_ok-project.project c.in_ok-body.body in
    let call : Call = ImportNodes row.name row.body row.at in
    names_by past row call c.changed.result (nodes_named (log_state past) row is) c.requires.at tt
    (c.changed.ensures past call (rw (c.in_ok-project.ensures, c.in_ok-body.ensures)
    at (decided_now past read row.at c.import_nodes.result c.requires.at
    (c.import_nodes.ensures past tabled))))
