use Rattle.std.proofs.Common.{◌≡◌, ◌++◌, map, length}
use Rattle.rb_canon.specs.Views.{field_view}
use Rattle.rb_export.specs.Groups.{groups_by}
use Rattle.rb_export.specs.Policies.{by_key, by_entry}
use Rattle.rb_export.proofs.scopes.somebody.Given as goal

-- the fields so far, with those of the groups that are left, are all
abbrev pub invariant-loop-key : goal.invariant-loop-key
invariant-loop-key l =
    map field_view l.fields.items ++ map by_entry (groups_by by_key l.rest)
    ≡ map by_entry (groups_by by_key l.by)

abbrev pub decreases-loop-key : goal.decreases-loop-key
decreases-loop-key l = length l.rest
