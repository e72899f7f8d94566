use Rattle.std.proofs.Common.{◌≡◌, drop, map}
use Rattle.std.specs.List.{list_all}
use Rattle.rb_yaml.specs.Tree.{pair_tree}
use Rattle.rb_chain.specs.Forms.{is_run_entry}
use Rattle.rb_chain.proofs.forms.are_run_entries.Given as goal

-- the entries that are left are such where all are
abbrev pub invariant-loop-entry : goal.invariant-loop-entry
invariant-loop-entry l =
    list_all is_run_entry (drop l.entry-index (map pair_tree l.entries))
    ≡ list_all is_run_entry (map pair_tree l.entries)
