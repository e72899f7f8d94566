use Rattle.std.proofs.Common.{◌∙◌, ap, w64}
use Rattle.std.proofs.Math.Facts.{to_z-of_z}
use Rattle.rb_log.specs.LogState.{moment_by}
use Rattle.rb_log.specs.Rows.{nodes_row}
use Rattle.rb_imports.proofs.NodeImports.{nodes_same, nodes_new}
use Rattle.rb_imports.proofs.node_imports.nodes_change.Goals as goal

pub returns-then-has_body : goal.returns-then-has_body
returns-then-has_body c past tabled is =
    nodes_same c.args.tables.now past tabled c.args.at c.args.project c.args.body c.unchanged.result
    c.count_of-number.result
    (rw (c.as_str-2.ensures, c.as_str-3.ensures, c.as_slice-2.ensures.value)
    at c.if-has_body.ensures)
    (rw (c.as_str.ensures, c.as_slice.ensures.value) at c.count_of-number.ensures)
    c.unchanged.ensures

pub returns : goal.returns
returns c past tabled is =
    nodes_new c.args.tables.now past tabled c.args.at c.args.project c.args.body
    c.import_laws.ensures.nodes c.imported.result c.count_of-number.result
    c.saturating_add-version.result c.new.result c.nodes_row-row.result
    c.in_ok-nodes_effect.field-0 c.args.inventory
    (rw (c.as_str-2.ensures, c.as_str-3.ensures, c.as_slice-2.ensures.value)
    at c.if-has_body.ensures)
    (rw (c.as_str.ensures, c.as_slice.ensures.value) at c.count_of-number.ensures)
    c.saturating_add-version.ensures
    (c.nodes_row-row.ensures
    ∙ ap (λ z. nodes_row z c.saturating_add-version.result c.args.project c.args.body)
    (to_z-of_z {w = w64} (record { sfits = c.moment.type_inv }) ∙ c.moment.ensures
    ∙ ap (moment_by c.args.tables.now.last) (to_z-of_z c.ranges.at)))
    c.new.ensures
    c.imported.ensures
    (c.in_ok-nodes_effect.ensures past tabled)
    is
