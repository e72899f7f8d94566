use Rattle.std.proofs.Common.{◌≡◌, ◌∙◌, ◌≤◌, ◌+◌, ℕ, List, map, length, vec_len, vec_capacity, ap, sym, arith}
use Rattle.rb_plan.specs.declared.world.HeldJob.{HeldJob}
use Rattle.rb_tables.specs.Due.{next_of}
use Rattle.rb_tables.specs.Worlds.{put_each}
use Rattle.rb_changes.proofs.job_puts.put_in.Goals as goal

-- No tactic stands in an answer: each would compute when the jobs are due.

-- room for those that there are
room_for : (jobs seen : List HeldJob) (m room : ℕ) → seen ≡ jobs → length jobs + m ≤ room
    → length seen ≤ room
room_for jobs seen m room is h = omega (arith, ap length is, h)

-- and for the new ones
room_also : (jobs moved : List HeldJob) (n m room same : ℕ) → moved ≡ jobs → n ≡ length moved
    → same ≡ room → length jobs + m ≤ room → n + m ≤ same
room_also jobs moved n m room same is many kept h = omega (arith, ap length is, many, kept, h)

itself : (n : ℕ) → n ≡ n
itself n = omega arith

pub moved_into-jobs-requires : goal.moved_into-jobs-requires
moved_into-jobs-requires c = record {
  empty = c.requires.empty;
  memory = room_for c.args.project.now.jobs c.replace.result (vec_len c.args.new)
      (vec_capacity c.args.room) c.replace.ensures.value c.requires.memory;
}

pub put_each-requires : goal.put_each-requires
put_each-requires c = record {
  memory = room_also c.args.project.now.jobs c.moved_into-jobs.result.items
      (vec_len c.moved_into-jobs.result) (vec_len c.args.new) (vec_capacity c.args.room)
      (vec_capacity c.moved_into-jobs.result)
      (c.moved_into-jobs.ensures.held ∙ c.replace.ensures.value)
      c.moved_into-jobs.result.ok.0 c.moved_into-jobs.ensures.memory c.requires.memory;
  due = c.requires.due
      ∙ ap (map next_of) (sym (c.moved_into-jobs.ensures.held ∙ c.replace.ensures.value));
  due_memory = room_also c.args.project.now.jobs c.moved_into-jobs.result.items
      (vec_len c.moved_into-jobs.result) (vec_len c.args.new) (vec_capacity c.args.due.now)
      (vec_capacity c.args.due.now)
      (c.moved_into-jobs.ensures.held ∙ c.replace.ensures.value)
      c.moved_into-jobs.result.ok.0 (itself (vec_capacity c.args.due.now))
      c.requires.due_memory;
}

pub returns-clause-jobs : goal.returns-clause-jobs
returns-clause-jobs c =
    ap (λ js. record c.args.project.now { jobs = js })
    (c.of.ensures ∙ c.put_each.ensures.held
    ∙ ap (put_each c.args.new.items)
    (c.moved_into-jobs.ensures.held ∙ c.replace.ensures.value))

pub returns-clause-due : goal.returns-clause-due
returns-clause-due c = c.put_each.ensures.due ∙ ap (map next_of) (sym c.of.ensures)
