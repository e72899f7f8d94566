use Rattle.std.proofs.Common.{◌≡◌, ◌∙◌, ◌+◌, ◌-◌, ◌<◌, ◌≤◌, ◌^◌, min, length, Some, slice_get, vec_len, vec_capacity, arith, ap, sym, subst}
use Rattle.std.proofs.Math.Facts.{to_z-of_z}
use Rattle.rb_plan.specs.declared.world.Project.{Project}
use Rattle.rb_tables.specs.declared.tables.Tables.{Tables}
use Rattle.rb_changes.proofs.JobPuts.{due_follows, due_fits, due_is, due_memory_fits, due_room, jobs_number_fits, noted_jobs_follow, place_fits, room_fits}
use Rattle.rb_changes.proofs.import_puts.put_jobs.Goals as goal

pub index_mut-due-requires : goal.index_mut-due-requires
index_mut-due-requires c =
    let h = c.requires.comes in
    subst (λ n. c.args.new.place < n) (sym c.note.new.tables.due.ok.0)
    (subst (λ (t : Tables). c.args.new.place < length t.due.items) (sym c.note.ensures)
    (due_fits c.args.tables.now c.args.at c.args.counted c.args.new h.0 h.1 h.2))

pub put_due-requires-clause-empty : goal.put_due-requires-clause-empty
put_due-requires-clause-empty c = c.requires.comes.2.effect.due_empty

pub put_due-requires-clause-memory : goal.put_due-requires-clause-memory
put_due-requires-clause-memory c =
    let h = c.requires.comes in
    due_room c.args.tables.now c.note.new.tables c.args.at c.args.counted c.args.new h.0 h.1 h.2
    c.note.ensures c.index_mut-due.result.now c.index_mut-due.ensures.value

pub put_at_place-requires-clause-place : goal.put_at_place-requires-clause-place
put_at_place-requires-clause-place c =
    let h = c.requires.comes in
    subst (λ (t : Tables). c.args.new.place < length t.world.projects) (sym c.note.ensures)
    (place_fits c.args.tables.now c.args.at c.args.counted c.args.new h.0 h.1 h.2)

pub put_at_place-requires-clause-memory : goal.put_at_place-requires-clause-memory
put_at_place-requires-clause-memory c =
    subst (λ (t : Tables). (p : Project) → slice_get t.world.projects c.args.new.place ≡ Some p
    → length p.jobs + vec_len c.args.new.new ≤ vec_capacity c.args.new.room)
    (sym c.note.ensures)
    (λ p get. omega (
      arith,
      room_fits c.args.tables.now c.args.at c.args.counted c.args.new c.requires.comes p get,
      c.args.new.new.ok.0,
    ))

pub put_at_place-requires-clause-empty : goal.put_at_place-requires-clause-empty
put_at_place-requires-clause-empty c = c.requires.comes.2.effect.empty

pub put_at_place-requires-clause-due : goal.put_at_place-requires-clause-due
put_at_place-requires-clause-due c =
    let h = c.requires.comes in
    λ p get. c.put_due.ensures.held
    ∙ due_is c.args.tables.now c.note.new.tables c.args.at c.args.counted c.args.new h.0 h.1 h.2
    c.note.ensures c.index_mut-due.result.now c.index_mut-due.ensures.value p get

pub put_at_place-requires-clause-due_memory : goal.put_at_place-requires-clause-due_memory
put_at_place-requires-clause-due_memory c =
    subst (λ (t : Tables). (p : Project) → slice_get t.world.projects c.args.new.place ≡ Some p
    → length p.jobs + vec_len c.args.new.new ≤ vec_capacity c.put_due.new.due)
    (sym c.note.ensures)
    (λ p get. omega (
      arith,
      due_memory_fits c.args.tables.now c.args.at c.args.counted c.args.new c.requires.comes p
          get,
      c.put_due.ensures.memory,
      c.args.new.new.ok.0,
    ))

pub overflow_add-tables : goal.overflow_add-tables
overflow_add-tables c =
    let h = c.requires.comes in
    omega (
      arith,
      jobs_number_fits c.args.tables.now c.args.at c.args.counted c.args.new h.0 h.1 h.2,
      ap (λ (t : Tables). t.jobs_number) c.note.ensures,
    )

pub returns : goal.returns
returns c past row comes =
    noted_jobs_follow c.import_laws.ensures.projects c.args.tables.now c.note.new.tables c.args.at
    c.args.counted c.args.new _ c.put_at_place.new.projects
    (c.note.ensures ∙ ap (λ z. record c.args.tables.now {
      counted = min (c.args.tables.now.counted + c.args.counted) (2 ^ 64 - 1);
      last = Some z;
    }) (to_z-of_z c.ranges.at))
    (due_follows c.args.tables.now c.note.new.tables c.args.at c.args.counted c.args.new past row
    comes c.note.ensures c.put_at_place.new.due c.put_at_place.new.projects
    c.put_at_place.ensures.due c.put_at_place.ensures.jobs)
    c.put_at_place.ensures.jobs past row comes
