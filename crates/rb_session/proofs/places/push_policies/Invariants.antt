use Rattle.std.proofs.Common.{◌≡◌, ◌++◌, take, map}
use Rattle.rb_session.specs.declared.place.Place.TheVariants.{Policy}
use Rattle.rb_session.proofs.places.push_policies.Given as goal

-- the places so far
abbrev pub invariant-loop-file : goal.invariant-loop-file
invariant-loop-file l = l.places ≡ l.initial.places ++ map Policy (take l.file-index l.files)
