use Rattle.std.proofs.Common.{◌≡◌, map, take}
use Rattle.rb_acl.specs.Applying.{property_text}
use Rattle.rb_acl.proofs.columns.property_texts.Given as goal

-- the texts are those of the resources so far
abbrev pub invariant-loop-resource : goal.invariant-loop-resource
invariant-loop-resource l = l.texts.items
    ≡ map (λ resource. property_text resource l.key) (take l.resource-index l.resources)
