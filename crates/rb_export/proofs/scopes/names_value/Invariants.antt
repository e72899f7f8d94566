use Rattle.std.proofs.Common.{◌≡◌, ◌++◌, drop, map}
use Rattle.rb_canon.specs.Values.{one_text}
use Rattle.rb_canon.specs.Views.{canon_tree}
use Rattle.rb_export.specs.Policies.{by_text}
use Rattle.rb_export.proofs.scopes.names_value.Given as goal

-- the values so far, with those of the names that are left, are all
abbrev pub invariant-loop-b : goal.invariant-loop-b
invariant-loop-b l =
    map canon_tree l.items.items ++ map one_text (map by_text (drop l.b-index l.by))
    ≡ map one_text (map by_text l.by)
