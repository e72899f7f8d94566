use Rattle.std.proofs.Common.{◌≡◌, ◌++◌, length, map, All, vec_capacity}
use Rattle.rb_board_tests.specs.Kept.{MayPlay, pass_of}
use Rattle.rb_board_tests.proofs.casting.cast.Given as goal

-- those that are left stand behind those that have their parts
abbrev pub invariant-loop-pass : goal.invariant-loop-pass
invariant-loop-pass l =
    (map pass_of l.roles.items ++ l.passes.items ≡ l.fn.passes.items)
    × (length l.roles.items ≡ l.place) × All MayPlay l.roles.items
    × (vec_capacity l.roles ≡ vec_capacity l.fn.roles)

abbrev pub decreases-loop-pass : goal.decreases-loop-pass
decreases-loop-pass l = length l.passes.items
