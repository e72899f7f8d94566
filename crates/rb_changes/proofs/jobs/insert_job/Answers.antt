use Rattle.std.proofs.Common.{◌≡◌, ◌∙◌, ◌≤◌, ◌<◌, ℤ, ℕ, List, map, length, vec_len, vec_capacity, Option, ap, sym, arith}
use Rattle.std.specs.List.{insert}
use Rattle.std.proofs.lemmas.List.{length-map}
use Rattle.rb_plan.specs.declared.world.HeldJob.{HeldJob}
use Rattle.rb_tables.specs.Due.{next_of}
use Rattle.rb_changes.proofs.Stepping.{told_insert}
use Rattle.rb_changes.proofs.jobs.insert_job.Goals as goal

put_told : (jobs put : List HeldJob) (due : List (Option ℤ)) (place : ℕ) (new : HeldJob)
    (next : Option ℤ) → due ≡ map next_of jobs → next ≡ next_of new
    → put ≡ insert jobs place new → insert due place next ≡ map next_of put
put_told jobs put due place new next is at h =
    ap (λ ds. insert ds place next) is ∙ ap (insert (map next_of jobs) place) at
    ∙ told_insert next_of jobs place new ∙ ap (map next_of) (sym h)

as_many : (jobs : List HeldJob) (due : List (Option ℤ)) (n m : ℕ) → due ≡ map next_of jobs
    → n ≡ length jobs → m ≡ length due → m ≡ n
as_many jobs due n m is many also = also ∙ ap length is ∙ length-map jobs next_of ∙ sym many

room_too : (n m room : ℕ) → m ≡ n → n < room → m < room
room_too n m room is h = omega (arith, is, h)

place_too : (n m at : ℕ) → m ≡ n → at ≤ n → at ≤ m
place_too n m at is h = omega (arith, is, h)

pub put_at-requires : goal.put_at-requires
put_at-requires c =
    let many = as_many c.args.jobs.now.items c.args.due.now.items (vec_len c.args.jobs.now)
    (vec_len c.args.due.now) c.requires.due c.args.jobs.now.ok.0 c.args.due.now.ok.0 in record {
      memory = room_too (vec_len c.args.jobs.now) (vec_len c.args.due.now)
          (vec_capacity c.args.due.now) many c.requires.due_memory;
      place = place_too (vec_len c.args.jobs.now) (vec_len c.args.due.now) c.args.place many
          c.requires.place;
    }

pub returns-clause-held : goal.returns-clause-held
returns-clause-held c = c.put_at-2.ensures.held

pub returns-clause-due : goal.returns-clause-due
returns-clause-due c =
    c.put_at.ensures.held
    ∙ put_told c.args.jobs.now.items c.put_at-2.new.all.items c.args.due.now.items c.args.place
    c.args.new c.next_of.result c.requires.due c.next_of.ensures c.put_at-2.ensures.held

pub returns-clause-memory : goal.returns-clause-memory
returns-clause-memory c = c.put_at-2.ensures.memory

pub returns-clause-due_memory : goal.returns-clause-due_memory
returns-clause-due_memory c = c.put_at.ensures.memory
