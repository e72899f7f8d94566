use Rattle.std.proofs.Common.{◌≡◌, ◌≤◌, filter, length, reverse, take}
use Rattle.rb_log.specs.Executions.{executions}
use Rattle.rb_demo.specs.Counting.{has_succeeded}
use Rattle.rb_demo.proofs.counts.succeeded.Given as goal

-- those of the first executions that have succeeded are counted
abbrev pub invariant-loop-before : goal.invariant-loop-before
invariant-loop-before l = record {
  counted : l.count
      ≡ length (filter has_succeeded (take l.before (executions (reverse l.desk.log))));
  few : l.count ≤ l.before;
}
