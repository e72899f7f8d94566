use Rattle.std.proofs.Common.{◌≡◌, length}
use Rattle.rb_serve.proofs.stage.new_buffers.Given as goal

-- so many buffers are there
abbrev pub invariant-loop-number : goal.invariant-loop-number
invariant-loop-number l = length l.buffers.items ≡ l._number
