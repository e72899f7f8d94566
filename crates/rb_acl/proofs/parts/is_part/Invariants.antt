use Rattle.std.proofs.Common.{◌≡◌, false, map}
use Rattle.std.specs.List.{list_any}
use Rattle.rb_acl.specs.Parts.{is_item}
use Rattle.rb_acl.proofs.parts.is_part.Given as goal

-- no part so far is the item
abbrev pub invariant-loop-part : goal.invariant-loop-part
invariant-loop-part l = list_any (is_item l.item) (map (λ part. part.now) l.yielded) ≡ false
