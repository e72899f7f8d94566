use Rattle.std.proofs.Common.{◌≡◌, ◌++◌, drop, string_bytes}
use Rattle.rb_acl.specs.Joining.{joined_rest}
use Rattle.rb_acl.proofs.joining.joined_behind.Given as goal

-- what is joined and what is left to be joined are all
abbrev pub invariant-loop-text : goal.invariant-loop-text
invariant-loop-text l = string_bytes l.whole ++ joined_rest (drop l.text-index l.more)
    ≡ l.first ++ joined_rest l.more
