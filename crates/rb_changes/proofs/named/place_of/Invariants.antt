use Rattle.std.proofs.Common.{length, ◌-◌, ◌≡◌, map, ◌+◌, ◌≤◌, drop}
use Rattle.rb_changes.specs.Places.{place_in}
use Rattle.rb_changes.proofs.named.place_of.Given as goal

-- the place is this one and those that the name is behind among what is left
abbrev pub invariant-loop-place : goal.invariant-loop-place
invariant-loop-place g l =
    (l.place ≤ length l.all)
    × (place_in l.name (map g.T.Named.name_of l.all)
    ≡ l.place + place_in l.name (map g.T.Named.name_of (drop l.place l.all)))

abbrev pub decreases-loop-place : goal.decreases-loop-place
decreases-loop-place g l = length l.all - l.place
