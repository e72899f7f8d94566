use Rattle.std.proofs.Common.{◌≡◌, ◌++◌, map}
use Rattle.std.specs.Iterator.Adapters.{zip_first, zip_second}
use Rattle.std.specs.Slice.Iter.{iter_rest}
use Rattle.rb_looks.specs.Looking.{permitted, shown_in}
use Rattle.rb_looks.proofs.shown_jobs.permitted_views.Given as goal

-- what is made of those so far, and of those that are left
abbrev pub invariant-loop-decision : goal.invariant-loop-decision
invariant-loop-decision l =
    map (shown_in l.project) (permitted l.decisions l.jobs)
    ≡ l.views.items ++ map (shown_in l.project)
    (permitted (iter_rest (zip_first l.decision-iterator))
    (iter_rest (zip_second l.decision-iterator)))
