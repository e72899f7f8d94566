use Rattle.std.proofs.Common.{◌∙◌}
use Rattle.rb_acl.proofs.Joins.{rest_behind, rest_apart}
use Rattle.rb_acl.proofs.joining.is_joined_rest.Goals as goal

pub returns-in-None : goal.returns-in-None
returns-in-None c =
    rest_apart _ _ c.text-item.result _ _ _ c.loop-text-test.true c.text-item.is
    (c.as_bytes.ensures.value ∙ c.as_str.ensures) c.in-None.ensures c.loop-text.invariant

pub loop-text-preserved : goal.loop-text-preserved
loop-text-preserved c =
    rest_behind _ _ c.text-item.result _ _ _ _ c.loop-text-test.true c.text-item.is
    (c.as_bytes.ensures.value ∙ c.as_str.ensures) c.in-Some.ensures c.loop-text.invariant
