use Rattle.std.proofs.Common.{◌≡◌, [], take, drop}
use Rattle.rb_option.specs.Settled.{given_fault}
use Rattle.rb_option.proofs.settling.given_fault.Given as goal

-- the first fault of the values that are left is that of all
abbrev pub invariant-loop-i : goal.invariant-loop-i
invariant-loop-i l = given_fault l.defs (take l.i l.given) (drop l.i l.given) ≡ given_fault l.defs [] l.given
