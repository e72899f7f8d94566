use Rattle.std.proofs.Common.{◌≡◌, not, ◌++◌, drop, map, filter}
use Rattle.rb_causes.specs.Texts.{trimmed, is_empty, comma_items}
use Rattle.rb_causes.proofs.trimming.comma_items.Given as goal

-- the items so far, and those of the parts that are left, are all items
abbrev pub invariant-loop-part : goal.invariant-loop-part
invariant-loop-part l =
    l.items.items ++ filter (λ part. not (is_empty part)) (map trimmed (map (λ part. part.now) (drop l.part-index l.part-items))) ≡ comma_items l.text
