-- The row of a zone names the import of that zone.
use Rattle.std.proofs.Common.{ℤ}
use Rattle.rb_log.specs.LogState.{log_state}
use Rattle.rb_log.specs.declared.call.Call.{Call}
use Rattle.rb_log.specs.declared.call.Call.TheVariants.{ImportZone}
use Rattle.rb_desk.proofs.Named.{decided_now, names_by, zone_named}
use Rattle.rb_desk.proofs.judging.zone_change.Goals as goal

pub changed-requires : goal.changed-requires
changed-requires c =
    let t = c.requires.tabled in
    let at = c.args.row.now.at in
    let call : ℤ → Call = ImportZone c.in_ok-name.name c.in_ok-rule.rule in (
      t.0,
      call at,
      decided_now t.0 call at c.import_zone.result c.requires.at
          (c.import_zone.ensures t.0 t.1),
    )

pub returns : goal.returns
returns c past tabled is =
    let row = c.args.row.now in
    let read : ℤ → Call = ImportZone c.in_ok-name.name c.in_ok-rule.rule in
    let call : Call = ImportZone row.name row.body row.at in
    names_by past row call c.changed.result (zone_named (log_state past) row is) c.requires.at tt
    (c.changed.ensures past call (rw (c.in_ok-name.ensures, c.in_ok-rule.ensures)
    at (decided_now past read row.at c.import_zone.result c.requires.at
    (c.import_zone.ensures past tabled))))
