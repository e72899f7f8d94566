use Rattle.std.proofs.Common.{◌∙◌, ℕ, List}
use Rattle.rb_cron.specs.declared.zone.NamedZone.{NamedZone}
use Rattle.rb_changes.proofs.Puts.{held_put, free_put, held_in, free_in}
use Rattle.rb_changes.proofs.zones.put_zone.Goals as goal

abbrev zone_name : NamedZone → List ℕ
zone_name z = z.name

pub returns-in-Ok : goal.returns-in-Ok
returns-in-Ok c =
    let zones : List NamedZone = c.args.zones.now.items in
    let held =
    held_in zone_name c.args.zone.name c.as_str.result.now zones c.as_slice.result.now
    c.in-Ok.place c.as_str.ensures c.as_slice.ensures.value c.in-Ok.ensures.ok in
    held_put zone_name c.args.zone (λ z. c.args.zone) zones c.in-Ok.place held

pub returns-in-Err : goal.returns-in-Err
returns-in-Err c =
    let zones : List NamedZone = c.args.zones.now.items in
    let free =
    free_in zone_name c.args.zone.name c.as_str.result.now zones c.as_slice.result.now
    c.in-Err.place c.as_str.ensures c.as_slice.ensures.value c.in-Err.ensures.err in
    c.put_at.ensures.held
    ∙ free_put zone_name c.args.zone (λ z. c.args.zone) zones c.in-Err.place free
