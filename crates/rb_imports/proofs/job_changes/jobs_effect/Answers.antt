use Rattle.std.proofs.Common.{◌≡◌, ◌∙◌, Some, length, map, ap, sym, subst, arith, rules, w64, SFits}
use Rattle.std.proofs.Math.Facts.{to_z-of_z}
use Rattle.std.proofs.lemmas.Option.{slice_get_within, slice_get-get_or}
use Rattle.rb_plan.specs.declared.world.Project.{Project}
use Rattle.rb_log.specs.LogState.{log_state, zones_in}
use Rattle.rb_log.specs.World.{jobs_in}
use Rattle.rb_tables.specs.Worlds.{held_by}
use Rattle.rb_imports.proofs.JobImports.{place_stands, place_named, held_here}
use Rattle.rb_imports.proofs.job_changes.jobs_effect.Goals as goal

pub returns : goal.returns
returns c past tabled kind is =
    let stands = place_stands c.args.tables.now past c.args.row.now.name c.args.place tabled
    c.requires in
    let fits : SFits w64 c.args.row.now.at = search rules in
    let new
    : c.in_ok-new.new.items
    ≡ map (held_by c.args.row.now.name c.in_ok-importer.importer c.args.row.now.at)
    c.args.jobs.items =
    subst (λ z. c.in_ok-new.new.items
    ≡ map (held_by c.args.row.now.name c.in_ok-importer.importer z) c.args.jobs.items)
    (to_z-of_z fits) (rw (c.as_str-2.ensures, c.of.ensures) at c.in_ok-new.ensures) in
    let importer = rw c.as_str.ensures at c.in_ok-importer.ensures in
    let held = held_here c.args.tables.now past c.args.row.now.name c.args.place tabled c.requires
    c.index-as_slice-place.result
    (slice_get-get_or c.args.tables.now.world.projects c.args.place c.index-as_slice-place.result
    (slice_get_within c.args.tables.now.world.projects c.args.place c.requires.project
    c.requires.found)
    ∙ ap Some (sym (rw c.as_slice.ensures at c.index-as_slice-place.is))) in
    let before : length c.as_slice-held.result.now ≡ length c.index-as_slice-place.result.jobs =
    ap length
    (c.as_slice-held.ensures ∙ ap (λ (p : Project). p.jobs) (sym c.index-as_slice-place.is)) in
    record {
      kind = kind;
      project = stands.logged;
      found = stands.found;
      named = place_named c.args.tables.now past c.args.row.now.name c.args.place tabled c.requires;
      new = new
          ∙ ap (λ js. map
          (held_by c.args.row.now.name c.in_ok-importer.importer c.args.row.now.at) js) is
          ∙ ap (λ who. map (held_by c.args.row.now.name who c.args.row.now.at)
          (jobs_in (zones_in (log_state past)) c.args.row.now)) importer;
      empty = c.in_ok-room.ensures.items;
      memory = omega (
        arith,
        held,
        before,
        c.len.ensures,
        c.in_ok-new.new.ok.0,
        c.in_ok-room.ensures.capacity,
      );
      due_empty = c.in_ok-due_room.ensures.items;
      due_memory = omega (
        arith,
        held,
        before,
        c.len.ensures,
        c.in_ok-new.new.ok.0,
        c.in_ok-due_room.ensures.capacity,
      );
    }
