use Rattle.std.proofs.Common.{◌≡◌, true, map}
use Rattle.std.specs.List.{list_all}
use Rattle.rb_acl.specs.Parts.{is_listed}
use Rattle.rb_acl.proofs.parts.are_parts_among.Given as goal

-- each part so far is empty or listed
abbrev pub invariant-loop-part : goal.invariant-loop-part
invariant-loop-part l = list_all (is_listed l.texts) (map (λ part. part.now) l.yielded) ≡ true
