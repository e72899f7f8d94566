use Rattle.std.proofs.Common.{◌∙◌, ap, w64}
use Rattle.std.proofs.Math.Facts.{to_z-of_z}
use Rattle.rb_log.specs.LogState.{moment_by}
use Rattle.rb_log.specs.Rows.{policy_row}
use Rattle.rb_imports.proofs.PolicyImports.{policy_same, policy_new}
use Rattle.rb_imports.proofs.policy_imports.policy_change.Goals as goal

pub returns-then-has_body : goal.returns-then-has_body
returns-then-has_body c past tabled place is =
    policy_same c.args.tables.now past tabled c.args.at c.args.caller.now c.args.checked
    c.args.name c.args.body c.unchanged.result
    (rw (c.as_str.ensures, c.as_str-2.ensures, c.as_slice.ensures.value) at c.if-has_body.ensures)
    c.unchanged.ensures

pub returns : goal.returns
returns c past tabled place is =
    policy_new c.args.tables.now past tabled c.args.at c.args.caller.now c.args.checked
    c.args.name c.args.body c.imported.result c.saturating_add-version.result c.new.result
    c.in_ok-row.row c.in_ok-policies_effect.field-0 c.args.new.items
    (rw (c.as_str.ensures, c.as_str-2.ensures, c.as_slice.ensures.value) at c.if-has_body.ensures)
    c.saturating_add-version.ensures
    (c.in_ok-row.ensures
    ∙ ap (λ z. policy_row z c.saturating_add-version.result c.args.checked c.args.name
    c.args.caller.now c.args.body)
    (to_z-of_z {w = w64} (record { sfits = c.moment.type_inv }) ∙ c.moment.ensures
    ∙ ap (moment_by c.args.tables.now.last) (to_z-of_z c.ranges.at)))
    c.new.ensures
    c.imported.ensures
    (c.in_ok-policies_effect.ensures past tabled)
    place is
