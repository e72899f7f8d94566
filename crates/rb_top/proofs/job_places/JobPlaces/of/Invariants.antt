use Rattle.std.proofs.Common.{take}
use Rattle.rb_top.specs.Names.{HasPlaces, ids_of}
use Rattle.rb_top.proofs.job_places.JobPlaces.of.Given as goal

-- the places so far are those of the jobs so far
abbrev pub invariant-loop-place : goal.invariant-loop-place
invariant-loop-place l = HasPlaces l.places (ids_of (take l.place l.jobs))
