use Rattle.std.proofs.Common.{◌≡◌, drop, map}
use Rattle.std.specs.Option.{option_copied}
use Rattle.rb_yaml.specs.Tree.{pair_tree}
use Rattle.rb_job.specs.Doubts.{has_other_id}
use Rattle.rb_job.proofs.checking.has_other_id.Given as goal

-- another id is among the entries that are left where it is among all
abbrev pub invariant-loop-entry : goal.invariant-loop-entry
invariant-loop-entry l =
    has_other_id (drop l.entry-index (map pair_tree l.before)) (option_copied l.text)
    ≡ has_other_id (map pair_tree l.before) (option_copied l.text)
