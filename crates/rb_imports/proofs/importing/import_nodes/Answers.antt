use Rattle.std.proofs.Common.{subst}
use Rattle.std.proofs.Math.Facts.{to_z-of_z}
use Rattle.rb_log.specs.LogState.{log_state}
use Rattle.rb_tables.specs.Changes.{Makes}
use Rattle.rb_imports.specs.Importing.{nodes_moved}
use Rattle.rb_log.specs.declared.call.Call.TheVariants as call
use Rattle.rb_imports.proofs.NodeImports.{handed_on, nodes_unnamed, nodes_unread, nodes_bad, nodes_decided, inventory_read}
use Rattle.rb_imports.proofs.importing.import_nodes.Goals as goal

pub returns-in_err-check_name : goal.returns-in_err-check_name
returns-in_err-check_name c past tabled =
    handed_on past (call.ImportNodes c.args.project c.args.body c.args.at) c.from_residual.result
    c.in_err-check_name.field-0.0 c.from_residual.ensures.1
    (nodes_unnamed past c.args.at c.args.project c.args.body c.in_err-check_name.field-0.0
    (rw c.as_str.ensures at c.in_err-check_name.ensures))

pub returns-in_err-docs : goal.returns-in_err-docs
returns-in_err-docs c past tabled =
    handed_on past (call.ImportNodes c.args.project c.args.body c.args.at)
    c.from_residual-in_err-docs.result c.in_err-docs.field-0.0
    c.from_residual-in_err-docs.ensures.1
    (nodes_unread past c.args.at c.args.project c.args.body c.in_err-docs.field-0.0
    (rw c.as_str.ensures at c.in_ok-check_name.ensures)
    (rw c.as_str-2.ensures at c.in_err-docs.ensures.err))

pub returns-in_err-inventory : goal.returns-in_err-inventory
returns-in_err-inventory c past tabled =
    handed_on past (call.ImportNodes c.args.project c.args.body c.args.at)
    c.from_residual-in_err-inventory.result c.in_err-inventory.field-0.0
    c.from_residual-in_err-inventory.ensures.1
    (nodes_bad past c.args.at c.args.project c.args.body c.in_err-inventory.field-0.0 _
    (rw c.as_str.ensures at c.in_ok-check_name.ensures)
    (rw c.as_str-2.ensures at c.in_ok-docs.ensures.ok)
    (rw c.as_slice.ensures.value at c.in_err-inventory.ensures.err))

pub returns : goal.returns
returns c past tabled =
    let named = rw c.as_str.ensures at c.in_ok-check_name.ensures in
    let read = rw c.as_str-2.ensures at c.in_ok-docs.ensures.ok in
    let is = rw c.as_slice.ensures.value at c.in_ok-inventory.ensures.ok in
    nodes_decided past c.args.at c.args.project c.args.body c.nodes_change.result _
    c.in_ok-inventory.inventory named read is
    (subst (λ z. Makes past (nodes_moved (log_state past) z c.args.project c.args.body)
    c.nodes_change.result) (to_z-of_z c.ranges.at)
    (c.nodes_change.ensures past tabled
    (inventory_read c.args.body _ c.in_ok-inventory.inventory read is)))
