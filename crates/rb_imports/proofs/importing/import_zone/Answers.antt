use Rattle.std.proofs.Common.{◌∙◌, subst}
use Rattle.std.proofs.Math.Facts.{to_z-of_z}
use Rattle.rb_log.specs.LogState.{log_state}
use Rattle.rb_log.specs.declared.call.Call.TheVariants as call
use Rattle.rb_tables.specs.Changes.{Makes}
use Rattle.rb_imports.specs.Importing.{zone_moved}
use Rattle.rb_imports.proofs.NodeImports.{handed_on}
use Rattle.rb_imports.proofs.ZoneImports.{zone_bad, zone_decided}
use Rattle.rb_imports.proofs.importing.import_zone.Goals as goal

pub zone_change-requires : goal.zone_change-requires
zone_change-requires c = c.in_ok-zone.ensures.ok ∙ c.as_str.ensures

pub returns-in_err-zone : goal.returns-in_err-zone
returns-in_err-zone c past tabled =
    handed_on past (call.ImportZone c.args.name c.args.rule c.args.at) c.from_residual.result
    c.in_err-zone.field-0.0 c.from_residual.ensures.1
    (zone_bad past c.args.at c.args.name c.args.rule c.in_err-zone.field-0.0
    (rw c.as_str.ensures at c.in_err-zone.ensures.keeps))

pub returns : goal.returns
returns c past tabled =
    zone_decided past c.args.at c.args.name c.args.rule c.zone_change.result
    (rw c.as_str.ensures at c.in_ok-zone.ensures.keeps)
    (subst (λ z. Makes past (zone_moved (log_state past) z c.args.name c.args.rule)
    c.zone_change.result) (to_z-of_z c.ranges.at) (c.zone_change.ensures past tabled))
