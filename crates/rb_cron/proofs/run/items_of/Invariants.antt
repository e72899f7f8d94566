use Rattle.std.proofs.Common.{◌≡◌, map, drop}
use Rattle.rb_cron.specs.Fields.{range_of, items_of}
use Rattle.rb_cron.specs.Values.{runs_before}
use Rattle.rb_cron.proofs.run.items_of.Given as goal

-- the runs so far, and those of the items that are left, are all runs
abbrev pub invariant-loop-item : goal.invariant-loop-item
invariant-loop-item l =
    runs_before l.runs (items_of (range_of l.field) (map (λ i. i.now) (drop l.item-index l.items))) ≡ items_of (range_of l.field) (map (λ i. i.now) l.items)
