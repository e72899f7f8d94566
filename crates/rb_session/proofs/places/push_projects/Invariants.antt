use Rattle.std.proofs.Common.{◌≡◌, ◌++◌, take}
use Rattle.std.specs.List.{flat_map}
use Rattle.rb_session.specs.Documents.{places_of_project}
use Rattle.rb_session.proofs.places.push_projects.Given as goal

-- the places so far
abbrev pub invariant-loop-project : goal.invariant-loop-project
invariant-loop-project l =
    l.places ≡ l.initial.places ++ flat_map places_of_project (take l.project-index l.projects)
