use Rattle.std.proofs.Common.{◌≡◌, ◌≤◌, ◌+◌, ◌++◌, All, Some, length, map, vec_capacity}
use Rattle.rb_serve.specs.Roles.{IsWhole, lines_of, passes_of, spawners_of}
use Rattle.rb_serve.proofs.casting.dismiss.Given as goal

-- what went back, with what the parts that are left have, is all
abbrev pub invariant-loop-roles : goal.invariant-loop-roles
invariant-loop-roles g l = record {
  passes : map Some l.passes.items ++ passes_of l.roles.items ≡ passes_of l.fn.roles.items;
  lines : l.lines.items ++ lines_of l.roles.items ≡ lines_of l.fn.roles.items;
  spawners : l.spawners.items ++ spawners_of l.roles.items ≡ spawners_of l.fn.roles.items;
  whole : All IsWhole l.roles.items;
  pass_room : length l.passes.items + length (passes_of l.roles.items) ≤ vec_capacity l.passes;
  line_room : length l.lines.items + length (lines_of l.roles.items) ≤ vec_capacity l.lines;
  spawner_room : length l.spawners.items + length (spawners_of l.roles.items)
      ≤ vec_capacity l.spawners;
}

abbrev pub decreases-loop-roles : goal.decreases-loop-roles
decreases-loop-roles g l = length l.roles.items
