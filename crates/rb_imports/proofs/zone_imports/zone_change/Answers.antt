use Rattle.std.proofs.Common.{◌∙◌, ap, w64}
use Rattle.std.proofs.Math.Facts.{to_z-of_z}
use Rattle.rb_log.specs.LogState.{moment_by}
use Rattle.rb_log.specs.Rows.{zone_row}
use Rattle.rb_imports.proofs.ZoneImports.{zone_new, zone_same}
use Rattle.rb_imports.proofs.zone_imports.zone_change.Goals as goal

pub returns-then-has_body : goal.returns-then-has_body
returns-then-has_body c past tabled =
    zone_same c.args.tables.now past tabled c.args.at c.args.name c.args.rule c.unchanged.result
    (rw (c.as_str.ensures, c.as_str-2.ensures, c.as_slice.ensures.value) at c.if-has_body.ensures)
    c.unchanged.ensures

pub returns : goal.returns
returns c past tabled =
    zone_new c.args.tables.now past tabled c.args.at c.args.name c.args.rule c.imported.result
    c.saturating_add-version.result c.new.result c.zone_row-row.result
    c.in_ok-zones_effect.field-0 c.args.zone
    (rw (c.as_str.ensures, c.as_str-2.ensures, c.as_slice.ensures.value) at c.if-has_body.ensures)
    c.saturating_add-version.ensures
    (c.zone_row-row.ensures
    ∙ ap (λ z. zone_row z c.saturating_add-version.result c.args.name c.args.rule)
    (to_z-of_z {w = w64} (record { sfits = c.moment.type_inv }) ∙ c.moment.ensures
    ∙ ap (moment_by c.args.tables.now.last) (to_z-of_z c.ranges.at)))
    c.new.ensures
    c.imported.ensures
    (c.in_ok-zones_effect.ensures past tabled)
    c.requires
