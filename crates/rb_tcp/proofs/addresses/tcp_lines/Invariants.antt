use Rattle.std.proofs.Common.{◌≡◌, ◌≤◌, All, length, vec_capacity}
use Rattle.rb_tcp.specs.LineState.{unserved}
use Rattle.rb_tcp.proofs.addresses.tcp_lines.Given as goal

-- a line for each address so far
abbrev pub invariant-loop-address : goal.invariant-loop-address
invariant-loop-address g l = record {
  count : length l.lines.items ≡ l.address-index;
  room : length l.addresses ≤ vec_capacity l.lines;
  unserved : All (λ line. line ≡ unserved l.left 0) l.lines.items;
}
