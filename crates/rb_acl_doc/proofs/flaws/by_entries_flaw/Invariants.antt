use Rattle.std.proofs.Common.{◌≡◌, drop, map}
use Rattle.std.specs.List.{flat_map}
use Rattle.rb_yaml.specs.Tree.{pair_tree}
use Rattle.rb_acl_doc.specs.Forms.{in_entry}
use Rattle.rb_acl_doc.specs.Keys.{by_keys}
use Rattle.rb_acl_doc.specs.Telling.{sooner, foremost_kind}
use Rattle.rb_acl_doc.proofs.flaws.by_entries_flaw.Given as goal

-- the flaw so far, and that of what is left, are that of all
abbrev pub invariant-loop-entry : goal.invariant-loop-entry
invariant-loop-entry l =
    sooner l.flaw (foremost_kind (flat_map (in_entry by_keys) (drop l.entry-index
    (map pair_tree l.entries))))
    ≡ foremost_kind (flat_map (in_entry by_keys) (map pair_tree l.entries))
