use Rattle.std.proofs.Common.{◌≡◌, take}
use Rattle.rb_chain.proofs.asking.copy_props.Given as goal

-- the properties so far are copied
abbrev pub invariant-loop-prop : goal.invariant-loop-prop
invariant-loop-prop l = l.copy ≡ take l.prop-index l.props
