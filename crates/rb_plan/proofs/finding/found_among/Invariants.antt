use Rattle.std.proofs.Common.{◌≡◌, drop}
use Rattle.rb_plan.specs.Worlds.{found_among}
use Rattle.rb_plan.proofs.finding.found_among.Given as goal

-- what the projects that are left hold is what all hold
abbrev pub invariant-loop-project : goal.invariant-loop-project
invariant-loop-project l =
    found_among l.id (drop l.project-index l.projects) ≡ found_among l.id l.projects
