use Rattle.std.proofs.Common.{◌≡◌, ◌+◌, [], drop, length, vec_capacity}
use Rattle.rb_serve.specs.Roles.{AreGiven}
use Rattle.rb_serve.proofs.casting.cast_doors.Given as goal

-- so many lines have their parts, and the passes and lines that are left stand behind theirs
abbrev pub invariant-loop-number : goal.invariant-loop-number
invariant-loop-number g l = record {
  given : AreGiven l.fn.roles.items l.roles.items l.fn.passes.items l.passes.items
      l.fn.lines.items l.lines.items [] [];
  rest : l.passes.items ≡ drop l.number l.fn.passes.items;
  passes : length l.passes.items + l.number ≡ length l.fn.passes.items;
  lines : length l.lines.items + l.number ≡ length l.fn.lines.items;
  buffers : length l.buffers.items + l.number ≡ length l.fn.buffers.items;
  roles : length l.roles.items ≡ length l.fn.roles.items + l.number;
  line_room : vec_capacity l.lines ≡ vec_capacity l.fn.lines;
  pass_room : vec_capacity l.passes ≡ vec_capacity l.fn.passes;
  role_room : vec_capacity l.roles ≡ vec_capacity l.fn.roles;
}
