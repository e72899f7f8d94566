use Rattle.std.proofs.Common.{◌≡◌, ◌++◌, take, map}
use Rattle.rb_session.specs.declared.place.Place.TheVariants.{Jobs}
use Rattle.rb_session.proofs.places.push_jobs.Given as goal

-- the places so far
abbrev pub invariant-loop-file : goal.invariant-loop-file
invariant-loop-file l =
    l.places ≡ l.initial.places ++ map (λ file. Jobs l.project file) (take l.file-index l.files)
