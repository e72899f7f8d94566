use Rattle.std.proofs.Common.{◌≡◌, drop, find}
use Rattle.rb_imports.specs.JobImports.{is_called}
use Rattle.rb_imports.proofs.job_imports.place_of.Given as goal

-- none before is called so
abbrev pub invariant-loop-place : goal.invariant-loop-place
invariant-loop-place l =
    find (is_called l.name) (drop l.place l.projects) ≡ find (is_called l.name) l.projects
