use Rattle.std.proofs.Common.{◌≡◌, ◌++◌, take, map}
use Rattle.rb_session.specs.Documents.{zone_place}
use Rattle.rb_session.proofs.places.push_zones.Given as goal

-- the places so far
abbrev pub invariant-loop-zone : goal.invariant-loop-zone
invariant-loop-zone l =
    l.places ≡ l.initial.places ++ map (zone_place l.file) (take l.zone-index l.zones)
