use Rattle.std.proofs.Common.{◌≡◌, drop}
use Rattle.rb_acl.specs.Applying.{prop_text}
use Rattle.rb_acl.proofs.testing.prop_text.Given as goal

-- the properties that are left have under the key what all have
abbrev pub invariant-loop-prop : goal.invariant-loop-prop
invariant-loop-prop l = prop_text (drop l.prop-index l.props) l.key ≡ prop_text l.props l.key
