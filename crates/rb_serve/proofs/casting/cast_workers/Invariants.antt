use Rattle.std.proofs.Common.{◌≡◌, ◌+◌, [], drop, length, vec_capacity}
use Rattle.rb_serve.specs.Roles.{AreGiven}
use Rattle.rb_serve.proofs.casting.cast_workers.Given as goal

-- so many spawners have their parts, and the passes and spawners that are left stand behind theirs
abbrev pub invariant-loop-number : goal.invariant-loop-number
invariant-loop-number g l = record {
  given : AreGiven l.fn.roles.items l.roles.items l.fn.passes.items l.passes.items [] []
      l.fn.spawners.items l.spawners.items;
  rest : l.passes.items ≡ drop l.number l.fn.passes.items;
  passes : length l.passes.items + l.number ≡ length l.fn.passes.items;
  spawners : length l.spawners.items + l.number ≡ length l.fn.spawners.items;
  roles : length l.roles.items ≡ length l.fn.roles.items + l.number;
  spawner_room : vec_capacity l.spawners ≡ vec_capacity l.fn.spawners;
  pass_room : vec_capacity l.passes ≡ vec_capacity l.fn.passes;
  role_room : vec_capacity l.roles ≡ vec_capacity l.fn.roles;
}
