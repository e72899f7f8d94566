use Rattle.std.proofs.Common.{◌≡◌, ◌++◌, drop}
use Rattle.rb_option.specs.Settled.{option_fault, settled_values}
use Rattle.rb_option.proofs.settling.settle_all.Given as goal

-- the first fault of the options that are left is that of all, and the values so far with theirs
-- are all
abbrev pub invariant-loop-option : goal.invariant-loop-option
invariant-loop-option l = record {
  fault : option_fault l.given (drop l.option-index l.defs) ≡ option_fault l.given l.defs;
  values : l.values ++ settled_values (drop l.option-index l.defs) l.given ≡ settled_values l.defs l.given;
}
