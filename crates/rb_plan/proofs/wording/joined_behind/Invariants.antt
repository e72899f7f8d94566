use Rattle.std.proofs.Common.{◌≡◌, ◌++◌, drop, string_bytes}
use Rattle.rb_acl.specs.Joining.{joined_rest}
use Rattle.rb_plan.proofs.wording.joined_behind.Given as goal

-- what is joined and what is left to be joined are all
abbrev pub invariant-loop-tag : goal.invariant-loop-tag
invariant-loop-tag l = string_bytes l.text ++ joined_rest (drop l.tag-index l.more) ≡ l.first ++ joined_rest l.more
