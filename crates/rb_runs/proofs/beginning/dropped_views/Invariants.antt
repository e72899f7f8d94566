use Rattle.std.proofs.Common.{◌≡◌, map, take}
use Rattle.rb_log.specs.Executions.{dropped_view}
use Rattle.rb_runs.proofs.beginning.dropped_views.Given as goal

-- the nodes so far as they are shown
abbrev pub invariant-loop-one : goal.invariant-loop-one
invariant-loop-one l = l.views ≡ map (dropped_view l.policies) (take l.one-index l.dropped)
