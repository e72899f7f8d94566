use Rattle.std.proofs.Common.{◌≡◌, ◌≤◌, map}
use Rattle.rb_tables.specs.Due.{next_of}
use Rattle.rb_changes.specs.Firing.{fired}
use Rattle.rb_changes.proofs.Stepping.{up_to}
use Rattle.rb_changes.proofs.firing.fire_each.Given as goal

-- those before the place are fired, and due anew
abbrev pub invariant-loop-place : goal.invariant-loop-place
invariant-loop-place l =
    (l.place ≤ l.place-end)
    × (l.jobs.items ≡ up_to (fired l.id l.at) l.place l.fn.jobs.items)
    × (l.due.items ≡ map next_of l.jobs.items)
