use Rattle.std.proofs.Common.{◌≡◌, bytes_eq, drop}
use Rattle.rb_acl.specs.Joining.{joined_rest}
use Rattle.rb_acl.proofs.joining.is_joined_rest.Given as goal

-- what is left of the texts is what is left of the whole, just as all texts are all of it
abbrev pub invariant-loop-text : goal.invariant-loop-text
invariant-loop-text l = bytes_eq (joined_rest (drop l.text-index l.texts)) l.rest
    ≡ bytes_eq (joined_rest l.texts) l.whole
