use Rattle.std.proofs.Common.{◌≡◌, ◌≤◌, [], map}
use Rattle.rb_tables.specs.Due.{project_nexts}
use Rattle.rb_changes.specs.Dues.{dues}
use Rattle.rb_changes.specs.Firing.{fired_in}
use Rattle.rb_changes.proofs.Stepping.{up_to}
use Rattle.rb_changes.proofs.firing.put_fire.Given as goal

-- the projects before the place are fired, and due anew
abbrev pub invariant-loop-place : goal.invariant-loop-place
invariant-loop-place l =
    (l.place ≤ l.place-end)
    × (l.projects.items
    ≡ up_to (fired_in l.id l.at) l.place l.fn.tables.world.projects)
    × (dues l.tables.due ≡ map project_nexts l.projects.items)
    × (l.tables ≡ record l.fn.tables {
      due = l.tables.due;
      world = record l.fn.tables.world { projects = [] };
    })
