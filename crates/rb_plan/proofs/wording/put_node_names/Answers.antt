use Rattle.std.proofs.Common.{rules}
use Rattle.rb_plan.proofs.Told.{node_told}
use Rattle.rb_plan.proofs.wording.put_node_names.Goals as goal

pub returns : goal.returns
returns c =
    node_told c.args.names.now c.loop-attribute.names _ _ _ c.as_slice-attribute-items.result.now c.args.node.now c.loop-attribute.attribute-index _ _ _
    c.as_slice-attribute-items.ensures c.loop-attribute-test.false c.loop-attribute.invariant
    c.as_str.ensures c.in_ok-put_name.ensures c.as_str-2.ensures c.in_ok-put_name-2.ensures (search rules) c.in_ok-put_name-3.ensures
