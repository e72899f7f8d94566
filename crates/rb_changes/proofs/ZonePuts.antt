-- A row of a zone changes the tables as it changes what the log says.
use Rattle.std.specs.declared.alloc.Global.{Global}
use Rattle.std.proofs.Common.{◌≡◌, ◌∙◌, ◌<◌, ◌+◌, ◌-◌, ◌^◌, min, ℕ, ℤ, List, [], ◌∷◌, length, nat_eq, Some, Vec, vec_capacity, ap, sym, subst, refl, add-one, arith}
use Rattle.std.proofs.lemmas.List.{length-map}
use Rattle.rb_causes.specs.declared.row.Row.{Row}
use Rattle.rb_cron.specs.declared.zone.NamedZone.{NamedZone}
use Rattle.rb_plan.specs.declared.world.World.{World}
use Rattle.rb_log.specs.Rows.{counted_bytes, is_zone, zone_kind}
use Rattle.rb_log.specs.World.{Latest, count_of, latest, latest_of, put_latest, zone_in, zones_of}
use Rattle.rb_log.specs.Executions.{running_now}
use Rattle.rb_log.specs.Laws.{CountsAreTold}
use Rattle.rb_log.specs.LogState.{LogState, log_state, world_of}
use Rattle.rb_log.proofs.RoomLaws.{IsQuiet, either_none, unmarked_all}
use Rattle.rb_tables.specs.Changes.{Comes}
use Rattle.rb_tables.specs.Tables.{AreEntries, AreLogTables, owed_among}
use Rattle.rb_tables.specs.Worlds.{put_zone}
use Rattle.rb_tables.specs.declared.change.TableEffect.TheVariants as effect
use Rattle.rb_tables.specs.declared.change.ZonesEffect.{ZonesEffect}
use Rattle.rb_tables.specs.declared.tables.Tables.{Tables}
use Rattle.rb_tables.proofs.Marked.{policies_before}
use Rattle.rb_tables.proofs.Projects.{number_few, rows_few}
use Rattle.rb_changes.proofs.OneMark.{counted_more}
use Rattle.rb_changes.proofs.PolicyPuts.{count_few}
use Rattle.rb_changes.proofs.Worlds.{zone_of, zones_put}

abbrev with_zones : Tables → ℤ → ℕ → Vec Latest Global → List NamedZone → Tables
with_zones old at n latest zones = record old {
  counted = n;
  last = Some at;
  zones = latest;
  zones_number = old.zones_number + 1;
  world = record old.world { zones = zones };
}

abbrev zone_row : Row → Row
zone_row row = record row { kind = zone_kind }

zone_quiet : (row : Row) → IsQuiet (zone_row row)
zone_quiet row = record {
  marks = λ e. either_none (nat_eq row.a e.number) [] refl;
  withdraws = λ p e. refl;
}

module _ (old : Tables) (at : ℤ) (counted : ℕ) (e : ZonesEffect) (past : List Row) where
  abbrev Comes' : Row → Type 0
  Comes' row = Comes old at counted (effect.Zone e) past row

  pub zone_count_fits : CountsAreTold → (row : Row) → Comes' row
      → count_of (latest_of e.latest.name old.zones.items) + 1 < 2 ^ 64
  zone_count_fits law row h =
      let is : count_of (latest_of e.latest.name old.zones.items)
      ≡ count_of (latest_of e.latest.name (latest is_zone past)) =
      ap (λ ls. count_of (latest_of e.latest.name ls)) h.tabled.says.zones in
      omega (arith, is, count_few law is_zone e.latest.name past, rows_few old past h.tabled)

  pub zone_number_fits : (row : Row) → Comes' row → old.zones_number + 1 < 2 ^ 64
  zone_number_fits row h =
      omega (
        arith,
        h.tabled.says.zones_number,
        number_few is_zone past,
        rows_few old past h.tabled,
      )

  pub zone_room : (row : Row) → Comes' row → length old.world.zones < vec_capacity e.room
  zone_room row h =
      omega (
        arith,
        h.effect.memory,
        ap (λ (w : World). length w.zones) h.tabled.says.world,
        length-map (latest is_zone past) zone_in,
      )

  module _ (n : ℕ) (latest_zones : Vec Latest Global) (zones : List NamedZone)
      (more : n ≡ min (old.counted + counted) (2 ^ 64 - 1))
      (latest_put : latest_zones.items ≡ put_latest e.latest old.zones.items)
      (zone_put : zones ≡ put_zone e.zone old.world.zones) where
    abbrev Follows : Row → Type 0
    Follows row =
        Comes' row
        → AreLogTables (with_zones old at n latest_zones zones) (log_state (row ∷ past))

    follow_by : (row : Row) → Follows (zone_row row)
    follow_by row h =
        let s : LogState = log_state past in
        let r : Row = zone_row row in
        let says : AreLogTables old s = h.tabled.says in
        let es = unmarked_all (policies_before past) r s.executions (zone_quiet row) in
        let put : zones ≡ zones_of (put_latest r s.zones) =
        zone_put
        ∙ ap (λ z. put_zone z old.world.zones) h.effect.zone
        ∙ ap (λ (w : World). put_zone (zone_of r) w.zones) says.world
        ∙ sym (zones_put r s.zones) in record {
          counted = counted_more old past (counted_bytes r) counted n says h.counted_is more;
          last = ap Some h.at_is;
          draw = says.draw;
          workers = says.workers;
          checks = says.checks;
          doors = says.doors;
          leaves = says.leaves;
          owed = says.owed ∙ ap owed_among (sym es);
          zones = latest_put
              ∙ ap (λ x. put_latest x old.zones.items) h.effect.latest_is
              ∙ ap (put_latest r) says.zones;
          zones_number = ap (λ m. m + 1) says.zones_number ∙ add-one s.zones_number;
          nodes = says.nodes;
          due = says.due;
          files = says.files;
          few_files = says.few_files;
          jobs_number = says.jobs_number;
          executions = subst (AreEntries old.executions.items) (sym es) says.executions;
          world = ap (λ (w : World). record w { zones = zones }) says.world
              ∙ ap (λ zs. record (world_of s) { zones = zs }) put
              ∙ ap (λ es. record (world_of s) {
                zones = zones_of (put_latest r s.zones);
                running = running_now es;
              }) (sym es);
          numbered = says.numbered;
        }

    pub zones_follow : (row : Row) → Follows row
    zones_follow row h =
        subst (λ k. Follows (record row { kind = k })) (sym h.effect.kind) (follow_by row) h

-- the row was noted, and then the rest was put
pub noted_zones_follow : (old noted : Tables) (at : ℤ) (counted : ℕ) (e : ZonesEffect)
    (latest_zones : Vec Latest Global) (zones : List NamedZone)
    → noted ≡ record old {
      counted = min (old.counted + counted) (2 ^ 64 - 1);
      last = Some at;
    }
    → latest_zones.items ≡ put_latest e.latest noted.zones.items
    → zones ≡ put_zone e.zone noted.world.zones
    → (past : List Row) (row : Row) → Comes old at counted (effect.Zone e) past row
    → AreLogTables (record noted {
      zones = latest_zones;
      zones_number = noted.zones_number + 1;
      world = record noted.world { zones = zones };
    }) (log_state (row ∷ past))
noted_zones_follow old noted at counted e latest_zones zones is latest put past row h =
    subst (λ (t : Tables). latest_zones.items ≡ put_latest e.latest t.zones.items
    → zones ≡ put_zone e.zone t.world.zones
    → AreLogTables (record t {
      zones = latest_zones;
      zones_number = t.zones_number + 1;
      world = record t.world { zones = zones };
    }) (log_state (row ∷ past))) (sym is)
    (λ l z. zones_follow old at counted e past (min (old.counted + counted) (2 ^ 64 - 1))
    latest_zones zones refl l z row h) latest put
