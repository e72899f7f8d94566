use Rattle.std.proofs.Common.{◌≡◌, ◌+◌, ◌≤◌, length, map, vec_capacity}
use Rattle.std.specs.Vec.Iter.{into_iter_items}
use Rattle.rb_tables.specs.Due.{next_of}
use Rattle.rb_tables.specs.Worlds.{put_each}
use Rattle.rb_changes.proofs.jobs.put_each.Given as goal

-- what is left is put behind what was put, when they are due follows, and there is memory for it
abbrev pub invariant-loop-job : goal.invariant-loop-job
invariant-loop-job l = record {
  put : put_each (into_iter_items l.job-iterator) l.jobs.items
      ≡ put_each l.fn.new.items l.fn.jobs.items;
  due : l.due.items ≡ map next_of l.jobs.items;
  memory : length l.jobs.items + length (into_iter_items l.job-iterator) ≤ vec_capacity l.jobs;
  due_memory : length l.jobs.items + length (into_iter_items l.job-iterator)
      ≤ vec_capacity l.due;
}
