use Rattle.std.proofs.Common.{◌≡◌, ◌++◌, map, length}
use Rattle.rb_canon.specs.Views.{canon_tree}
use Rattle.rb_export.specs.Jobs.{thousands, jobs_value}
use Rattle.rb_export.proofs.jobs.jobs_values.Given as goal

-- the documents so far, with those of the jobs that are left, are all
abbrev pub invariant-loop-document : goal.invariant-loop-document
invariant-loop-document l =
    map canon_tree l.values.items ++ map jobs_value (thousands 999 l.rest)
    ≡ map jobs_value (thousands 999 l.jobs)

abbrev pub decreases-loop-document : goal.decreases-loop-document
decreases-loop-document l = length l.rest
