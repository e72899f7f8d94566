use Rattle.std.proofs.Common.{◌≡◌, ◌∙◌, ◌≤◌, ◌<◌, ◌+◌, ◌∷◌, ℕ, List, length, vec_len, vec_capacity, ap, sym, arith, rules}
use Rattle.std.proofs.lemmas.List.{nil_from_length}
use Rattle.std.specs.Vec.Iter.{into_iter_items}
use Rattle.rb_plan.specs.declared.world.HeldJob.{HeldJob}
use Rattle.rb_tables.specs.Worlds.{put_each}
use Rattle.rb_changes.proofs.jobs.put_each.Goals as goal

-- No tactic stands where what a job's sameness says is known: it would compute that.

-- room at first
room_first : (n m room : ℕ) (xs ys left : List HeldJob) → n ≡ length xs → m ≡ length ys
    → left ≡ ys → n + m ≤ room → length xs + length left ≤ room
room_first n m room xs ys left many also is h = omega (arith, many, also, ap length is, h)

-- room for one
room_one : (n room : ℕ) (job : HeldJob) (xs left rest : List HeldJob) → n ≡ length xs
    → left ≡ job ∷ rest → length xs + length left ≤ room → n < room
room_one n room job xs left rest many is h = omega (arith, many, ap length is, h)

-- room for the rest
room_rest : (before room : ℕ) (job : HeldJob) (xs put left rest : List HeldJob)
    → length put ≤ length xs + 1 → left ≡ job ∷ rest → length xs + length left ≤ before
    → room ≡ before → length put + length rest ≤ room
room_rest before room job xs put left rest more is h same =
    omega (arith, more, ap length is, h, same)

pub loop-job-init : goal.loop-job-init
loop-job-init c =
    let jobs : List HeldJob = c.args.jobs.now.items in
    let gives = c.into_iter-job-iterator.ensures.into_iter_gives.0 in record {
      put = ap (λ js. put_each js jobs) gives;
      due = c.requires.due;
      memory = room_first (vec_len c.args.jobs.now) (vec_len c.args.new)
          (vec_capacity c.args.jobs.now) jobs c.args.new.items
          (into_iter_items c.into_iter-job-iterator.result) c.args.jobs.now.ok.0
          c.args.new.ok.0 gives c.requires.memory;
      due_memory = room_first (vec_len c.args.jobs.now) (vec_len c.args.new)
          (vec_capacity c.args.due.now) jobs c.args.new.items
          (into_iter_items c.into_iter-job-iterator.result) c.args.jobs.now.ok.0
          c.args.new.ok.0 gives c.requires.due_memory;
    }

pub put_job-requires : goal.put_job-requires
put_job-requires c = record {
  memory = room_one (vec_len c.loop-job.jobs) (vec_capacity c.loop-job.jobs) c.in-Some.job
      c.loop-job.jobs.items (into_iter_items c.loop-job.job-iterator)
      (into_iter_items c.next.new.self) c.loop-job.jobs.ok.0 c.in-Some.ensures.steps.0
      c.loop-job.invariant.memory;
  due = c.loop-job.invariant.due;
  due_memory = room_one (vec_len c.loop-job.jobs) (vec_capacity c.loop-job.due) c.in-Some.job
      c.loop-job.jobs.items (into_iter_items c.loop-job.job-iterator)
      (into_iter_items c.next.new.self) c.loop-job.jobs.ok.0 c.in-Some.ensures.steps.0
      c.loop-job.invariant.due_memory;
}

pub loop-job-preserved : goal.loop-job-preserved
loop-job-preserved c =
    let jobs : List HeldJob = c.loop-job.jobs.items in
    let put : List HeldJob = c.put_job.new.jobs.items in
    let left : List HeldJob = into_iter_items c.loop-job.job-iterator in
    let rest : List HeldJob = into_iter_items c.next.new.self in record {
      put = ap (put_each rest) c.put_job.ensures.held
          ∙ sym (ap (λ js. put_each js jobs) c.in-Some.ensures.steps.0)
          ∙ c.loop-job.invariant.put;
      due = c.put_job.ensures.due;
      memory = room_rest (vec_capacity c.loop-job.jobs) (vec_capacity c.put_job.new.jobs)
          c.in-Some.job jobs put left rest c.put_job.ensures.more c.in-Some.ensures.steps.0
          c.loop-job.invariant.memory c.put_job.ensures.memory;
      due_memory = room_rest (vec_capacity c.loop-job.due) (vec_capacity c.put_job.new.due)
          c.in-Some.job jobs put left rest c.put_job.ensures.more c.in-Some.ensures.steps.0
          c.loop-job.invariant.due_memory c.put_job.ensures.due_memory;
    }

pub returns-clause-held : goal.returns-clause-held
returns-clause-held c =
    let none = nil_from_length (into_iter_items c.loop-job.job-iterator) (search rules) in
    sym (ap (λ js. put_each js c.loop-job.jobs.items) none) ∙ c.loop-job.invariant.put

pub returns-clause-due : goal.returns-clause-due
returns-clause-due c = c.loop-job.invariant.due
