use Rattle.std.proofs.Common.{◌≡◌, ◌≤◌, ◌+◌, ◌++◌, length, map, vec_capacity}
use Rattle.rb_board_tests.specs.Kept.{pass_of}
use Rattle.rb_board_tests.proofs.casting.uncast.Given as goal

-- those that are left stand behind those that went back
abbrev pub invariant-loop-role : goal.invariant-loop-role
invariant-loop-role l =
    (l.back.items ++ map pass_of l.roles.items ≡ map pass_of l.fn.roles.items)
    × (length l.back.items + length l.roles.items ≤ vec_capacity l.back)
    × (length l.diaries.items + length l.roles.items ≤ vec_capacity l.diaries)

abbrev pub decreases-loop-role : goal.decreases-loop-role
decreases-loop-role l = length l.roles.items
