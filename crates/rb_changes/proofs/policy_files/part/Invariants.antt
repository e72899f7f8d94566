use Rattle.std.proofs.Common.{◌≡◌, ◌≤◌, ◌+◌, ◌++◌, filter, length, vec_capacity}
use Rattle.std.specs.Vec.Iter.{into_iter_items}
use Rattle.rb_changes.specs.PolicyFiles.{is_of_earlier_file, is_behind}
use Rattle.rb_changes.proofs.policy_files.part.Given as goal

-- what was moved and what is left to move are all, and there is memory for what is left
abbrev pub invariant-loop-policy : goal.invariant-loop-policy
invariant-loop-policy l = record {
  before : l.before.items ++ filter (is_of_earlier_file l.file) (into_iter_items l.policy-iterator)
      ≡ l.fn.before.items ++ filter (is_of_earlier_file l.fn.file) l.fn.policies.items;
  behind : l.behind.items ++ filter (is_behind l.file) (into_iter_items l.policy-iterator)
      ≡ l.fn.behind.items ++ filter (is_behind l.fn.file) l.fn.policies.items;
  before_room : length l.before.items + length (into_iter_items l.policy-iterator)
      ≤ vec_capacity l.before;
  behind_room : length l.behind.items + length (into_iter_items l.policy-iterator)
      ≤ vec_capacity l.behind;
  before_same : vec_capacity l.before ≡ vec_capacity l.fn.before;
  behind_same : vec_capacity l.behind ≡ vec_capacity l.fn.behind;
}
