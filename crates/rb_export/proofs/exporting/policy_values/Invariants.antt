use Rattle.std.proofs.Common.{◌≡◌, ◌++◌, drop, map}
use Rattle.rb_canon.specs.Views.{canon_tree}
use Rattle.rb_export.specs.Policies.{policy_value}
use Rattle.rb_export.proofs.exporting.policy_values.Given as goal

-- the values so far, with those of the policies that are left, are all
abbrev pub invariant-loop-policy : goal.invariant-loop-policy
invariant-loop-policy l =
    map canon_tree l.values.items ++ map policy_value (drop l.policy-index l.policies)
    ≡ map policy_value l.policies
