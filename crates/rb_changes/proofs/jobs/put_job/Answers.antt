use Rattle.std.proofs.Common.{◌≡◌, ◌∙◌, ◌+◌, ◌<◌, ◌≤◌, vec_len, ℕ, List, length, length-set, slice_set, ap, arith}
use Rattle.std.specs.List.{insert}
use Rattle.std.proofs.lemmas.List.Edits.{length-insert}
use Rattle.rb_plan.specs.declared.world.HeldJob.{HeldJob}
use Rattle.rb_log.specs.World.{unless_same}
use Rattle.rb_changes.specs.Places.{IsFreeAt, IsHeldAt}
use Rattle.rb_changes.proofs.Puts.{held_low, held_put, free_put, held_in, free_in}
use Rattle.rb_changes.proofs.jobs.put_job.Goals as goal

abbrev id_of : HeldJob → List ℕ
id_of held = held.id

low_of : (name : List ℕ) (jobs : List HeldJob) (n at : ℕ) → IsHeldAt id_of name jobs at
    → n ≡ length jobs → at < n
low_of name jobs n at h many = omega (arith, held_low id_of name jobs at h, many)

free_low : (name : List ℕ) (jobs : List HeldJob) (n at : ℕ) → IsFreeAt id_of name jobs at
    → n ≡ length jobs → at ≤ n
free_low name jobs n at h many = omega (arith, h.within, many)

set_more : (jobs put : List HeldJob) (at : ℕ) (new : HeldJob) → put ≡ slice_set jobs at new
    → length put ≤ length jobs + 1
set_more jobs put at new made = omega (arith, ap length made, length-set jobs at new)

put_more : (name : List ℕ) (jobs put : List HeldJob) (at : ℕ) (new : HeldJob)
    → IsFreeAt id_of name jobs at → put ≡ insert jobs at new → length put ≤ length jobs + 1
put_more name jobs put at new h made =
    omega (arith, ap length made, length-insert jobs at new h.within)

pub set_job-requires : goal.set_job-requires
set_job-requires c =
    let jobs : List HeldJob = c.args.jobs.now.items in
    let held =
    held_in id_of c.args.new.id c.as_str.result.now jobs c.as_slice.result.now c.in-Ok.place
    c.as_str.ensures c.as_slice.ensures.value c.in-Ok.ensures.ok in record {
      place = low_of c.args.new.id jobs (vec_len c.args.jobs.now) c.in-Ok.place held
          c.args.jobs.now.ok.0;
      due = c.requires.due;
    }

pub insert_job-requires : goal.insert_job-requires
insert_job-requires c =
    let jobs : List HeldJob = c.args.jobs.now.items in
    let free =
    free_in id_of c.args.new.id c.as_str.result.now jobs c.as_slice.result.now
    c.in-Err.place c.as_str.ensures c.as_slice.ensures.value c.in-Err.ensures.err in record {
      place = free_low c.args.new.id jobs (vec_len c.args.jobs.now) c.in-Err.place free
          c.args.jobs.now.ok.0;
      memory = c.requires.memory;
      due = c.requires.due;
      due_memory = c.requires.due_memory;
    }

pub returns-in-Ok : goal.returns-in-Ok
returns-in-Ok c =
    let jobs : List HeldJob = c.args.jobs.now.items in
    let held =
    held_in id_of c.args.new.id c.as_str.result.now jobs c.as_slice.result.now c.in-Ok.place
    c.as_str.ensures c.as_slice.ensures.value c.in-Ok.ensures.ok in
    let put = c.set_job.ensures.held held.found held.get in record {
      held = put ∙ held_put id_of c.args.new (unless_same c.args.new) jobs c.in-Ok.place held;
      due = c.set_job.ensures.due;
      memory = c.set_job.ensures.memory;
      due_memory = c.set_job.ensures.due_memory;
      more = set_more jobs c.set_job.new.jobs.items c.in-Ok.place
          (unless_same c.args.new held.found) put;
    }

pub returns-in-Err : goal.returns-in-Err
returns-in-Err c =
    let jobs : List HeldJob = c.args.jobs.now.items in
    let free =
    free_in id_of c.args.new.id c.as_str.result.now jobs c.as_slice.result.now
    c.in-Err.place c.as_str.ensures c.as_slice.ensures.value c.in-Err.ensures.err in record {
      held = c.insert_job.ensures.held
          ∙ free_put id_of c.args.new (unless_same c.args.new) jobs c.in-Err.place free;
      due = c.insert_job.ensures.due;
      memory = c.insert_job.ensures.memory;
      due_memory = c.insert_job.ensures.due_memory;
      more = put_more c.args.new.id jobs c.insert_job.new.jobs.items c.in-Err.place c.args.new
          free c.insert_job.ensures.held;
    }
