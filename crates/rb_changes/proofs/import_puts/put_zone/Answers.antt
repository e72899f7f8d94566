use Rattle.std.proofs.Common.{◌∙◌, ◌+◌, ◌-◌, ◌<◌, ◌^◌, min, length, vec_capacity, Some, arith, ap, sym, subst}
use Rattle.std.proofs.Math.Facts.{to_z-of_z}
use Rattle.rb_log.specs.World.{latest_of, count_of}
use Rattle.rb_tables.specs.declared.tables.Tables.{Tables}
use Rattle.rb_changes.proofs.ZonePuts.{noted_zones_follow, zone_count_fits, zone_number_fits, zone_room}
use Rattle.rb_changes.proofs.import_puts.put_zone.Goals as goal

pub put_latest-requires-clause-count : goal.put_latest-requires-clause-count
put_latest-requires-clause-count c =
    let h = c.requires.comes in
    subst (λ (t : Tables). count_of (latest_of c.args.new.latest.name t.zones.items) + 1 < 2 ^ 64)
    (sym c.note.ensures)
    (zone_count_fits c.args.tables.now c.args.at c.args.counted c.args.new h.0
    c.import_laws.ensures.counts h.1 h.2)

pub put_in_zones-requires-clause-empty : goal.put_in_zones-requires-clause-empty
put_in_zones-requires-clause-empty c = c.requires.comes.2.effect.empty

pub put_in_zones-requires-clause-memory : goal.put_in_zones-requires-clause-memory
put_in_zones-requires-clause-memory c =
    let h = c.requires.comes in
    subst (λ (t : Tables). length t.world.zones < vec_capacity c.args.new.room)
    (sym c.note.ensures)
    (zone_room c.args.tables.now c.args.at c.args.counted c.args.new h.0 h.1 h.2)

pub overflow_add-tables : goal.overflow_add-tables
overflow_add-tables c =
    let h = c.requires.comes in
    omega (
      arith,
      zone_number_fits c.args.tables.now c.args.at c.args.counted c.args.new h.0 h.1 h.2,
      ap (λ (t : Tables). t.zones_number) c.note.ensures,
    )

pub returns : goal.returns
returns c =
    noted_zones_follow c.args.tables.now c.note.new.tables c.args.at c.args.counted c.args.new
    c.put_latest.new.all c.put_in_zones.new.zones
    (c.note.ensures ∙ ap (λ z. record c.args.tables.now {
      counted = min (c.args.tables.now.counted + c.args.counted) (2 ^ 64 - 1);
      last = Some z;
    }) (to_z-of_z c.ranges.at))
    c.put_latest.ensures c.put_in_zones.ensures
