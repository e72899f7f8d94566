use Rattle.std.proofs.Common.{◌≡◌, ◌++◌, drop, map}
use Rattle.rb_canon.specs.Views.{field_view}
use Rattle.rb_export.specs.Policies.{type_entry}
use Rattle.rb_export.proofs.rules.types_value.Given as goal

-- the fields so far, with those of the types that are left, are all
abbrev pub invariant-loop-t : goal.invariant-loop-t
invariant-loop-t l =
    map field_view l.fields.items ++ map type_entry (drop l.t-index l.types)
    ≡ map type_entry l.types
